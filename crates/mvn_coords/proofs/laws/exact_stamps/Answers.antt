use Rattle.mvn_coords.proofs.StampLaws.{exact_text}
use Rattle.mvn_coords.proofs.laws.exact_stamps.Goals as goal

pub returns : goal.returns
returns c = exact_text
