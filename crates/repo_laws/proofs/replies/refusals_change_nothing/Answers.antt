use Rattle.std.proofs.Common.{ap}
use Rattle.repo_model.specs.Effect.{with_effects}
use Rattle.repo_model.specs.History.{ticked}
use Rattle.repo_laws.proofs.Answered.{entry-refused, entry-rows}
use Rattle.repo_laws.proofs.replies.refusals_change_nothing.Goals as goal

pub returns-clause-refused : goal.returns-clause-refused
returns-clause-refused c = λ settings old e fits refused. ap (with_effects (ticked old e.moment e.faults)) (entry-refused settings old e fits refused)

pub returns-clause-rows : goal.returns-clause-rows
returns-clause-rows c = entry-rows
