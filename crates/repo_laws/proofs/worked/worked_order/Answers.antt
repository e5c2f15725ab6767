use Rattle.std.proofs.Common.{refl}
use Rattle.mvn_coords.specs.Path.{parts_of}
use Rattle.repo_laws.proofs.worked.worked_order.Goals as goal

pub returns-clause-fades : goal.returns-clause-fades
unfolding parts_of
returns-clause-fades c = refl

pub returns-clause-goes : goal.returns-clause-goes
unfolding parts_of
returns-clause-goes c = refl
