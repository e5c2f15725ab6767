use Rattle.mvn_coords.proofs.ExactPaths.{exact}
use Rattle.mvn_coords.proofs.laws.exact_paths.Goals as goal

pub returns : goal.returns
returns c = exact
