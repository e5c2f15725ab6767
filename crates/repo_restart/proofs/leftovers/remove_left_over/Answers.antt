use Rattle.std.proofs.Common.{drop, take, ◌∙◌}
use Rattle.repo_restart.specs.Leftovers.{left_over}
use Rattle.repo_restart.proofs.ShelfLemmas.{gone-parts, on-err}
use Rattle.repo_restart.proofs.leftovers.remove_left_over.Goals as goal

pub returns-in_err-remove_unnamed-clause-err : goal.returns-in_err-remove_unnamed-clause-err
returns-in_err-remove_unnamed-clause-err g c =
    let sorted = c.args.sorted.now in
    let stored = c.args.stored.now in
    let i = c.loop-number.number-index in
    on-err c.from_residual.result
    (left_over sorted (take i stored), left_over sorted (drop i stored), gone-parts sorted stored i, c.in_err-remove_unnamed.ensures.err ∙ c.loop-number.invariant.shelf)
