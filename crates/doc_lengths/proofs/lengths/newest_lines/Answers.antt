use Rattle.std.proofs.Common.{◌≡◌, ◌++◌, List, ℕ, refl, sym, ap, length, ◌∙◌}
use Rattle.std.specs.Prelude.{codes}
use Rattle.mvn_coords.specs.Civil.{text_of_time}
use Rattle.mvn_coords.specs.Layout.{text_of_number}
use Rattle.mvn_metadata.specs.Written.{element, newest_lines}
use Rattle.doc_lengths.specs.Counts.{counted}
use Rattle.doc_lengths.proofs.LengthLemmas.{both, length-time}
use Rattle.doc_lengths.proofs.lengths.newest_lines.Goals as goal

pub returns-in-Some : goal.returns-in-Some
returns-in-Some c =
    let b = c.in-Some.build in
    let time = element (codes "      ") (codes "timestamp") (text_of_time b.stamp) in
    let number = element (codes "      ") (codes "buildNumber") (text_of_number b.number) in
    let timed = c.element.ensures (codes "      ") (codes "timestamp") (text_of_time b.stamp) refl refl (ap (λ n. counted n) (length-time b.stamp)) in
    let told : c.as_bytes.result.now ≡ text_of_number b.number = c.as_bytes.ensures.text ∙ c.number_text.ensures in
    let numbered = c.element-number.ensures (codes "      ") (codes "buildNumber") (text_of_number b.number) refl refl (sym (c.bytes_len.ensures ∙ ap (λ (t : List ℕ). counted (length t)) told)) in
    c.block.ensures (codes "    ") (codes "snapshot") (time ++ number) refl refl (sym (both time number c.element.result c.element-number.result c.saturating_add.result timed numbered c.saturating_add.ensures))
    ∙ ap (λ n. counted (length (newest_lines n))) (sym c.in-Some.is)
