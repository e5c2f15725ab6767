use Rattle.proxy_laws.proofs.Answering.{turn-answered, entry-answered}
use Rattle.proxy_laws.proofs.decisions.looks_are_answered_by_sort.Goals as goal

pub returns-clause-turn : goal.returns-clause-turn
returns-clause-turn c = turn-answered

pub returns-clause-entry : goal.returns-clause-entry
returns-clause-entry c = entry-answered
