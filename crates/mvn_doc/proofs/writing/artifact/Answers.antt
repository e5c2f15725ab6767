use Rattle.std.proofs.Common.{ap}
use Rattle.std.specs.Prelude.{codes}
use Rattle.mvn_metadata.specs.Written.{element_if}
use Rattle.mvn_doc.proofs.TextLemmas.{then, same}
use Rattle.mvn_doc.proofs.writing.artifact.Goals as goal

pub returns : goal.returns
returns c =
    let newest = same (ap (λ v. element_if (codes "    ") (codes "latest") v) c.latest.ensures) c.element_if.ensures in
    let released = same (ap (λ v. element_if (codes "    ") (codes "release") v) c.release.ensures) c.element_if-2.ensures in
    let inside = then (then (then newest released) c.version_lines.ensures) c.updated.ensures in
    then (then c.open_line.ensures inside) c.close_line.ensures
