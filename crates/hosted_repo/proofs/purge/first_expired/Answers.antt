use Rattle.std.proofs.Common.{◌≡◌, ℕ, zero, suc, List, [], map, take, refl, sym, ap, ◌∙◌, arith}
use Rattle.repo_model.specs.Data as plain
use Rattle.repo_model.specs.Effect.{expires}
use Rattle.hosted_repo.specs.Expired.{shown_expired}
use Rattle.ordered_rows.proofs.CountLemmas.{none_before}
use Rattle.hosted_repo.proofs.purge.first_expired.Goals as goal

take_none : {A : Type 0} (n : ℕ) → take {A = A} n [] ≡ []
take_none zero = refl
take_none (suc n) = refl

pub returns-then-counts-eq0 : goal.returns-then-counts-eq0
returns-then-counts-eq0 g c repo =
    let rows : List plain.Row = c.args.rows.now in
    ap (map (shown_expired repo)) c.new.ensures.items
    ∙ sym (take_none c.args.most)
    ∙ ap (λ (rs : List plain.Row). take c.args.most (map (λ (row : plain.Row). expires repo row.path row.blob.number) rs)) (none_before c.args.limit rows (omega (arith, c.counts.ensures.fading, c.if-counts-eq0.true)))
