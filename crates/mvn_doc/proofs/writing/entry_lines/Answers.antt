use Rattle.std.proofs.Common.{ap, ◌∙◌}
use Rattle.std.specs.Prelude.{codes}
use Rattle.mvn_metadata.specs.Written.{element, moment_text}
use Rattle.mvn_doc.proofs.TextLemmas.{then, same}
use Rattle.mvn_doc.proofs.writing.entry_lines.Goals as goal

pub returns : goal.returns
returns c =
    let extended = same (ap (λ t. element (codes "        ") (codes "extension") t) (c.as_bytes.ensures.value ∙ c.as_str.ensures)) c.element.ensures in
    let stamped = same (ap (λ t. element (codes "        ") (codes "updated") (moment_text t)) c.stamp.ensures) c.moment_line.ensures in
    let inside = then (then (then c.classifier.ensures extended) c.value_line.ensures) stamped in
    then (then c.open_line.ensures inside) c.close_line.ensures
