use Rattle.std.proofs.Common.{◌≡◌, sym, ap, ◌∙◌}
use Rattle.std.specs.Prelude.{codes}
use Rattle.mvn_coords.specs.Civil.{text_of_time}
use Rattle.mvn_coords.specs.Layout.{text_of_number}
use Rattle.mvn_metadata.specs.Written.{element, newest_lines}
use Rattle.mvn_doc.proofs.TextLemmas.{then, same}
use Rattle.mvn_doc.proofs.writing.newest_lines.Goals as goal

pub returns-in-Some : goal.returns-in-Some
returns-in-Some c =
    let stamp : c.text.result ≡ text_of_time c.in-Some.build.stamp = c.text.ensures.text ∙ ap (λ t. text_of_time t) c.stamp.ensures in
    let number : c.as_bytes.result.now ≡ text_of_number c.in-Some.build.number = c.as_bytes.ensures.text ∙ c.number_text-number.ensures in
    let stamped = same (ap (λ t. element (codes "      ") (codes "timestamp") t) stamp) c.element.ensures in
    let numbered = same (ap (λ t. element (codes "      ") (codes "buildNumber") t) number) c.element-in-Some.ensures in
    same (ap (λ n. newest_lines n) (sym c.in-Some.is)) (then (then c.open_line.ensures (then stamped numbered)) c.close_line.ensures)
