use Rattle.std.proofs.Common.{refl}
use Rattle.repo_laws.proofs.numbers.limits.Goals as goal

pub returns-clause-sessions : goal.returns-clause-sessions
returns-clause-sessions c = refl

pub returns-clause-staged : goal.returns-clause-staged
returns-clause-staged c = refl

pub returns-clause-rows : goal.returns-clause-rows
returns-clause-rows c = refl

pub returns-clause-collected : goal.returns-clause-collected
returns-clause-collected c = refl
