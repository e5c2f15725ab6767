use Rattle.std.proofs.Common.{All, IsTrue}
use Rattle.repo_model.specs.Command.{meets}
use Rattle.repo_model.specs.Shown.{shown_command}
use Rattle.repo_cases.proofs.core_bench.CoreBench.batch.Given as goal

abbrev pub invariant-loop-n : goal.invariant-loop-n
invariant-loop-n l = All (λ c. IsTrue (meets l.self.core.settings (shown_command c))) l.batch.items
