use Rattle.repo_laws.proofs.EachCause.{each-cause, entry-cause, cause-entry}
use Rattle.repo_laws.proofs.causes.refusals_have_causes.Goals as goal

pub returns-clause-turn : goal.returns-clause-turn
returns-clause-turn c = each-cause

pub returns-clause-entry : goal.returns-clause-entry
returns-clause-entry c = entry-cause

pub returns-clause-comes : goal.returns-clause-comes
returns-clause-comes c = cause-entry
