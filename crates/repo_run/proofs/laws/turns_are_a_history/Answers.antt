use Rattle.repo_run.proofs.Alone.{core_alone, core_counted}
use Rattle.repo_run.proofs.laws.turns_are_a_history.Goals as goal

pub returns-clause-legal : goal.returns-clause-legal
returns-clause-legal c entries old new made = let alone = core_alone entries old new made in (alone.legal, alone.ends, alone.same)

pub returns-clause-counted : goal.returns-clause-counted
returns-clause-counted c = core_counted
