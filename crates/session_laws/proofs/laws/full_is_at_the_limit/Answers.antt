use Rattle.session_laws.proofs.Reached.{turn-at-limit, entry-at-limit, limit-comes}
use Rattle.session_laws.proofs.laws.full_is_at_the_limit.Goals as goal

pub returns-clause-turn : goal.returns-clause-turn
returns-clause-turn c = turn-at-limit

pub returns-clause-entry : goal.returns-clause-entry
returns-clause-entry c = entry-at-limit

pub returns-clause-comes : goal.returns-clause-comes
returns-clause-comes c = limit-comes
