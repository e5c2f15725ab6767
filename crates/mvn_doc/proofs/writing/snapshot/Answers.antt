use Rattle.std.proofs.Common.{ap}
use Rattle.mvn_metadata.specs.Written.{updated_line}
use Rattle.mvn_doc.proofs.TextLemmas.{then, same}
use Rattle.mvn_doc.proofs.writing.snapshot.Goals as goal

pub returns : goal.returns
returns c =
    let stamped = same (ap (λ t. updated_line t) c.stamp_of.ensures) c.updated.ensures in
    let inside = then (then c.newest_lines.ensures stamped) c.entries_lines.ensures in
    then (then c.open_line.ensures inside) c.close_line.ensures
