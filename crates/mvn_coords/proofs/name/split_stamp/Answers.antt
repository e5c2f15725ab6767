use Rattle.mvn_coords.proofs.Names.{stamp_cut}
use Rattle.mvn_coords.proofs.name.split_stamp.Goals as goal

pub returns : goal.returns
returns c =
    let e = c.split_at_checked.ensures in
    stamp_cut c.args.text.now c.split_at_checked.result c.utf8.text e.variant e.front e.back
