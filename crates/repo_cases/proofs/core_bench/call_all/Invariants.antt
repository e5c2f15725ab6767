use Rattle.std.proofs.Common.{All, IsTrue, length}
use Rattle.repo_model.specs.Command.{meets}
use Rattle.repo_model.specs.Shown.{shown_command}
use Rattle.repo_cases.proofs.core_bench.call_all.Given as goal

abbrev pub invariant-loop-command : goal.invariant-loop-command
invariant-loop-command l = All (λ c. IsTrue (meets l.core.settings (shown_command c))) l.batch.items

abbrev pub decreases-loop-command : goal.decreases-loop-command
decreases-loop-command l = length l.batch.items
