use Rattle.mvn_digest.proofs.SideTexts.{read_again}
use Rattle.mvn_digest.proofs.laws.side_law.Goals as goal

pub returns : goal.returns
returns c = read_again
