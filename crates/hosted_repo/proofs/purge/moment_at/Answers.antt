use Rattle.std.proofs.Common.{ap}
use Rattle.std.specs.Option.{option_map_or}
use Rattle.repo_model.specs.Data as plain
use Rattle.hosted_repo.proofs.purge.moment_at.Goals as goal

pub returns-in-Some-clause-moment : goal.returns-in-Some-clause-moment
returns-in-Some-clause-moment g c = ap (λ o. option_map_or (λ (r : plain.Row). r.accepted) o 0) c.in-Some.ensures

pub returns-in-None-clause-moment : goal.returns-in-None-clause-moment
returns-in-None-clause-moment g c = ap (λ o. option_map_or (λ (r : plain.Row). r.accepted) o 0) c.in-None.ensures
