use Rattle.std.proofs.Common.{◌≡◌, ℕ, ◌++◌, List, length, take, drop, sym, ap, ◌∙◌, subst, arith}
use Rattle.std.proofs.Math.Seq.{drop-append_seam}
use Rattle.std.proofs.lemmas.List.{take_rest}
use Rattle.repo_model.specs.Effect.{forgets, yard_after}
use Rattle.repo_model.specs.Turn.{unlent}
use Rattle.blob_yard.specs.Numbers.{Numbers}
use Rattle.blob_yard.specs.Places.{AreBelow, garbage_of, without}
use Rattle.blob_yard.specs.Shown.{AreCounted, numbers_from}
use Rattle.blob_yard.specs.declared.places.Place.{Place}
use Rattle.blob_yard.proofs.MapLemmas.{AreBelow-filter}
use Rattle.blob_yard.proofs.YardLemmas.{garbage_unlent, forgotten_shown, forgotten_counted}
use Rattle.blob_yard.proofs.yard.Yard.collect.Goals as goal

change : (c : goal.After-take_out) → c.take_out.new.places ≡ without (take 100 (garbage_of c.self.inside.places)) c.self.inside.places
change c =
    let y = c.self.inside in
    let out = c.args.out.now.items in
    let from : c.len-from.result ≡ length out = omega (arith, c.len-from.ensures) in
    c.take_out.ensures ∙ ap (λ ns. without ns y.places) (
    take_rest c.deref.result.now c.len-from.result ∙
    ap (drop c.len-from.result) (c.deref.ensures.value ∙ c.push_garbage.ensures.out) ∙ ap (λ k. drop k (out ++ take 100 (garbage_of y.places))) from
    ∙ drop-append_seam out (take 100 (garbage_of y.places)))

pub invariant_of-self : goal.invariant_of-self
invariant_of-self c =
    let y = c.self.inside in
    let h = c.self.invariant in
    record {
      drawn = subst (λ (es : List (ℕ × Place)). AreBelow y.next_draft es) (sym (change c)) (AreBelow-filter y.next_draft _ y.places h.drawn);
      lent = h.lent;
      counted = subst (λ (es : List (ℕ × Place)). AreCounted es y.leases.entries) (sym (change c)) (forgotten_counted y.places c.push_garbage.ensures.rising y.leases.entries h.counted);
      draft = h.draft;
      lease = h.lease;
      session = h.session;
    }

pub returns-clause-out : goal.returns-clause-out
returns-clause-out c =
    let y = c.self.inside in
    c.push_garbage.ensures.out
    ∙ ap (λ ns. c.args.out.now.items ++ ns)
    (garbage_unlent y.places y.leases.entries y.next_draft y.next_lease y.next_session c.push_garbage.ensures.rising c.self.invariant.counted
    ∙ ap (λ (v : Numbers). unlent v.yard) c.self.view_is)

pub returns-clause-forgotten : goal.returns-clause-forgotten
returns-clause-forgotten c =
    let y = c.self.inside in
    ap (λ es. numbers_from es y.leases.entries y.next_draft y.next_lease y.next_session) (change c)
    ∙ forgotten_shown y.places c.push_garbage.ensures.rising y.leases.entries y.next_draft y.next_lease y.next_session c.self.invariant.counted
    ∙ ap (λ (v : Numbers). record v { yard = yard_after (forgets (unlent v.yard)) v.yard }) c.self.view_is
