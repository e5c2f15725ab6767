use Rattle.std.proofs.Common.{rules}
use Rattle.mvn_coords.specs.Path.{parts_of}
use Rattle.repo_model.specs.History.{due}
use Rattle.repo_laws.proofs.worked.worked_starts.Goals as goal

pub returns-clause-purge : goal.returns-clause-purge
unfolding parts_of
returns-clause-purge c = search (rules, due)

pub returns-clause-sessions : goal.returns-clause-sessions
unfolding parts_of
returns-clause-sessions c = search (rules, due)
