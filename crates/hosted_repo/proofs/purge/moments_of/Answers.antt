use Rattle.std.proofs.Common.{◌≤◌, ◌∷◌, [], ◌++◌, ℕ, zero, suc, String, Global, take, string_bytes, arith, sym, ap, ◌∙◌, subst}
use Rattle.std.proofs.lemmas.List.{map-append, take_more}
use Rattle.std.proofs.lemmas.List.Elements.{All-append}
use Rattle.std.specs.List.{All}
use Rattle.repo_model.specs.History.{latest_moment}
use Rattle.ordered_rows.specs.Rows.{shown_rows}
use Rattle.hosted_repo.specs.Fades.{accepted_at, accepted_of}
use Rattle.hosted_repo.proofs.purge.moments_of.Goals as goal

single : (m : ℕ) → m ≤ latest_moment → All (λ (k : ℕ). k ≤ latest_moment) (m ∷ [])
single m late zero d h = late
single m late (suc k) d h = absurd (omega (arith, h))

pub loop-path-preserved : goal.loop-path-preserved
loop-path-preserved g c =
    let i = c.loop-path.path-index in
    let paths = c.args.paths.now in
    let path = c.path-item.result in
    let rows = shown_rows c.args.rows.now.entries in
    let moment = c.moment_at-moment.result in
    let own = c.moment_at-moment.ensures.moment ∙ ap (accepted_of rows) c.as_str.ensures.value in
    record {
      moments = c.in_ok-push.ensures.items ∙ (λ j. c.loop-path.invariant.moments j ++ own j ∷ [])
          ∙ sym (map-append (λ (p : String Global). accepted_of rows (string_bytes p)) (take i paths) (path ∷ []))
          ∙ ap (accepted_at rows) (ap (λ (p : String Global). take i paths ++ p ∷ []) c.path-item.is ∙ sym (take_more paths i path c.loop-path-test.true));
      late = subst (All (λ (k : ℕ). k ≤ latest_moment)) (sym c.in_ok-push.ensures.items)
          (All-append (λ (k : ℕ). k ≤ latest_moment) c.loop-path.moments.items (moment ∷ []) c.loop-path.invariant.late (single moment c.moment_at-moment.ensures.late));
    }
