use Rattle.std.proofs.Common.{subst, sym}
use Rattle.repo_routes.specs.Intent.{Judged}
use Rattle.repo_routes.specs.Judge.{IsJudged}
use Rattle.repo_routes.proofs.KeptLemmas.{intent-kept}
use Rattle.repo_routes.proofs.judging.judge.Goals as goal

pub returns-in-Ok-clause-kept : goal.returns-in-Ok-clause-kept
returns-in-Ok-clause-kept c =
    let kept = rw c.in-Ok.ensures at (intent-kept c.args.settings.now c.args.head.now) in
    let P : Judged → Type 0 = IsJudged c.args.settings.now in
    subst P (sym c.request_of.ensures) kept
