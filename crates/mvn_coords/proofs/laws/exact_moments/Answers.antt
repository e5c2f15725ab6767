use Rattle.mvn_coords.proofs.Moments.{calendar}
use Rattle.mvn_coords.proofs.laws.exact_moments.Goals as goal

pub returns-clause-calendar : goal.returns-clause-calendar
returns-clause-calendar c = calendar
