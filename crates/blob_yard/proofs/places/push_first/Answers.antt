use Rattle.std.proofs.Common.{◌≡◌, ℕ, ◌++◌, ◌∷◌, [], cond, length, map, take, sym, ap, ◌∙◌, arith, List, length-append, ◌≤◌}
use Rattle.std.specs.Map.Iter.{deref_pair}
use Rattle.std.proofs.Math.Seq.{take-append_seam}
use Rattle.std.proofs.lemmas.List.{append-nil, map-append, take_all}
use Rattle.std.proofs.lemmas.Map.Iter.{rest_so_far, iter_end}
use Rattle.blob_yard.specs.Places.{garbage_of, is_garbage}
use Rattle.blob_yard.specs.declared.places.Place.{Place}
use Rattle.blob_yard.proofs.MapLemmas.{rising-from}
use Rattle.blob_yard.proofs.PlaceLemmas.{passing-push, passing-append}
use Rattle.blob_yard.proofs.places.push_first.Goals as goal

pub loop-number-preserved : goal.loop-number-preserved
loop-number-preserved c =
    let h = c.loop-number.invariant in
    let seen : List (ℕ × Place) = map deref_pair c.loop-number.yielded in
    let n = c.in-Some.number.now in
    let p = c.in-Some.place.now in
    let more : garbage_of (map deref_pair (c.loop-number.yielded ++ (c.in-Some.number, c.in-Some.place) ∷ [])) ≡ garbage_of seen =
    ap garbage_of (map-append deref_pair c.loop-number.yielded ((c.in-Some.number, c.in-Some.place) ∷ []))
    ∙ passing-push is_garbage seen n p
    ∙ ap (λ b. garbage_of seen ++ cond b (n ∷ []) []) (sym c.is_garbage.ensures ∙ c.if-is_garbage.false)
    ∙ append-nil (garbage_of seen) in
    record {
      out = h.out ∙ ap (λ g. c.args.out.now.items ++ g) (sym more);
      room = h.room;
      short = h.short;
    }

pub returns-then-len-end : goal.returns-then-len-end
returns-then-len-end c =
    let h = c.loop-number.invariant in
    let es = c.args.places.now.entries in
    let given = c.into_iter-number-iterator.ensures.into_iter_gives in
    let seen : List (ℕ × Place) = map deref_pair c.loop-number.yielded in
    let rest : List (ℕ × Place) = c.loop-number.number-iterator in
    let all : es ≡ seen ++ rest = sym given.0 ∙ rest_so_far deref_pair c.loop-number.yielded c.into_iter-number-iterator.result rest c.loop-number.yielded_by in
    let long = ap length h.out ∙ length-append c.args.out.now.items (garbage_of seen) in
    let full : length (garbage_of seen) ≡ c.args.most = omega (arith, long, c.len-in-loop-number.ensures, c.if-len-end.true, c.len.ensures) in
    record {
      out = h.out ∙ ap (λ g. c.args.out.now.items ++ g) (sym (
          ap (λ (xs : List (ℕ × Place)). take c.args.most (garbage_of xs)) all
          ∙ ap (take c.args.most) (passing-append is_garbage seen rest)
          ∙ ap (λ k. take k (garbage_of seen ++ garbage_of rest)) (sym full)
          ∙ take-append_seam (garbage_of seen) (garbage_of rest)));
      rising = rising-from es given.5;
    }

pub returns : goal.returns
returns c =
    let h = c.loop-number.invariant in
    let es = c.args.places.now.entries in
    let given = c.into_iter-number-iterator.ensures.into_iter_gives in
    let seen : List (ℕ × Place) = map deref_pair c.loop-number.yielded in
    let all : seen ≡ es = (iter_end deref_pair es c.loop-number.yielded c.into_iter-number-iterator.result c.loop-number.number-iterator c.next.new.self c.next.result given.0 c.loop-number.yielded_by c.in-None.is c.next.ensures.steps).0 in
    let long = ap length (h.out ∙ ap (λ (xs : List (ℕ × Place)). c.args.out.now.items ++ garbage_of xs) all) ∙ length-append c.args.out.now.items (garbage_of es) in
    let short : length (garbage_of es) ≤ c.args.most = omega (arith, long, h.short, c.len.ensures) in
    record {
      out = h.out ∙ ap (λ (xs : List (ℕ × Place)). c.args.out.now.items ++ garbage_of xs) all ∙ ap (λ g. c.args.out.now.items ++ g) (sym (take_all c.args.most (garbage_of es) short));
      rising = rising-from es given.5;
    }
