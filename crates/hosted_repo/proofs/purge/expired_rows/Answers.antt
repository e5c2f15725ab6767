use Rattle.std.proofs.Common.{◌≡◌, ℕ, Bool, cond, List, [], ◌∷◌, ◌++◌, length, map, filter, take, string_bytes, sym, ap, ◌∙◌, arith}
use Rattle.std.specs.Map.Iter.{deref_pair}
use Rattle.std.proofs.lemmas.List.{append-nil, length-map, map-append, take-map}
use Rattle.std.proofs.lemmas.Map.Iter.{iter_end, rest_so_far}
use Rattle.repo_model.specs.Data as plain
use Rattle.repo_model.specs.Effect.{Effect, expires}
use Rattle.hosted_repo.specs.Expired.{shown_expired}
use Rattle.ordered_rows.specs.Rows.{is_before, shown_at, shown_entry, shown_rows}
use Rattle.hosted_repo.specs.declared.purge.Expired.{Expired}
use Rattle.ordered_rows.proofs.Taken.{found_full, found_more}
use Rattle.ordered_rows.proofs.MapLemmas.{shown_more}
use Rattle.hosted_repo.proofs.purge.expired_rows.Goals as goal

abbrev gone : List ℕ → plain.Row → Effect
gone repo row = expires repo row.path row.blob.number

abbrev passes : ℕ → plain.Row → Bool
passes limit row = is_before limit row.phase

pub returns-then-len-most : goal.returns-then-len-most
returns-then-len-most g c repo =
    let es = c.args.rows.now.entries in
    let front = map deref_pair c.loop-path.yielded in
    let rest = c.loop-path.path-iterator in
    let found = c.loop-path.found in
    let given = c.into_iter-path-iterator.ensures.into_iter_gives in
    let split = ap shown_rows (sym given.0 ∙ rest_so_far deref_pair c.loop-path.yielded c.into_iter-path-iterator.result rest c.loop-path.yielded_by) ∙ map-append shown_entry front rest in
    let full : length (map (shown_expired repo) found.items) ≡ c.args.most = omega (arith, length-map found.items (shown_expired repo), found.ok.0, c.len.ensures, c.if-len-most.true) in
    found_full (gone repo) (passes c.args.limit) c.args.most (map (shown_expired repo) found.items) (shown_rows es) (shown_rows front) (shown_rows rest) (c.loop-path.invariant repo) full split
    ∙ sym (take-map (gone repo) c.args.most (filter (passes c.args.limit) (shown_rows es)))

pub loop-path-preserved-in-Continue-branch-2 : goal.loop-path-preserved-in-Continue-branch-2
loop-path-preserved-in-Continue-branch-2 g c repo =
    let front = map deref_pair c.loop-path.yielded in
    let found = c.loop-path.found in
    let blob = c.in-Some.row.now.parcel.blob in
    let row = shown_at (string_bytes c.in-Some.path.now) c.in-Some.row.now in
    let last : Expired = record { path = c.in_ok-copy.copy; blob = blob } in
    let few : length (map (shown_expired repo) found.items) ≡ c.args.most → ⊥ = λ full. omega (arith, full, length-map found.items (shown_expired repo), found.ok.0, c.len.ensures, c.if-len-most.false) in
    ap (map (shown_expired repo)) c.in_ok-push.ensures.items
    ∙ map-append (shown_expired repo) found.items (last ∷ [])
    ∙ ap (λ (t : List ℕ). map (shown_expired repo) found.items ++ expires repo t blob ∷ []) (c.in_ok-copy.ensures.ok ∙ c.as_str.ensures.value)
    ∙ ap (λ b. map (shown_expired repo) found.items ++ cond b (gone repo row ∷ []) []) (sym (sym c.is_before.ensures ∙ c.if-is_before.true))
    ∙ found_more (gone repo) (passes c.args.limit) c.args.most (map (shown_expired repo) found.items) (shown_rows front) row (c.loop-path.invariant repo) few
    ∙ ap (λ rs. map (gone repo) (take c.args.most (filter (passes c.args.limit) rs))) (sym (shown_more c.loop-path.yielded c.in-Some.path c.in-Some.row))

pub loop-path-preserved : goal.loop-path-preserved
loop-path-preserved g c repo =
    let front = map deref_pair c.loop-path.yielded in
    let found = c.loop-path.found in
    let row = shown_at (string_bytes c.in-Some.path.now) c.in-Some.row.now in
    let few : length (map (shown_expired repo) found.items) ≡ c.args.most → ⊥ = λ full. omega (arith, full, length-map found.items (shown_expired repo), found.ok.0, c.len.ensures, c.if-len-most.false) in
    sym (append-nil (map (shown_expired repo) found.items))
    ∙ ap (λ b. map (shown_expired repo) found.items ++ cond b (gone repo row ∷ []) []) (sym (sym c.is_before.ensures ∙ c.if-is_before.false))
    ∙ found_more (gone repo) (passes c.args.limit) c.args.most (map (shown_expired repo) found.items) (shown_rows front) row (c.loop-path.invariant repo) few
    ∙ ap (λ rs. map (gone repo) (take c.args.most (filter (passes c.args.limit) rs))) (sym (shown_more c.loop-path.yielded c.in-Some.path c.in-Some.row))

pub returns : goal.returns
returns g c repo =
    let es = c.args.rows.now.entries in
    let given = c.into_iter-path-iterator.ensures.into_iter_gives in
    c.loop-path.invariant repo
    ∙ ap (λ rs. map (gone repo) (take c.args.most (filter (passes c.args.limit) (shown_rows rs))))
    (iter_end deref_pair es c.loop-path.yielded c.into_iter-path-iterator.result c.loop-path.path-iterator c.next.new.self c.next.result given.0 c.loop-path.yielded_by c.in-None.is c.next.ensures.steps).0
    ∙ sym (take-map (gone repo) c.args.most (filter (passes c.args.limit) (shown_rows es)))
