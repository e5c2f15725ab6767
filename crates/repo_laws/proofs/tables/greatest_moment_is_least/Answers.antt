use Rattle.repo_laws.proofs.HoldingBlobs.{greatest-each, greatest-least}
use Rattle.repo_laws.proofs.tables.greatest_moment_is_least.Goals as goal

pub returns-clause-each : goal.returns-clause-each
returns-clause-each c = greatest-each

pub returns-clause-least : goal.returns-clause-least
returns-clause-least c = greatest-least
