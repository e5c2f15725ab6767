use Rattle.mvn_coords.proofs.Cuts.{cut_last_is}
use Rattle.mvn_coords.proofs.text.cut_last.Goals as goal

pub returns : goal.returns
returns c = cut_last_is c.args.path.now c.rsplit_once.result c.rsplit_once.ensures.cases
