use Rattle.std.proofs.Common.{◌++◌, List, ℕ, refl, sym, ap, length, ◌∙◌}
use Rattle.std.specs.Prelude.{codes}
use Rattle.mvn_coords.specs.Layout.{text_of_build}
use Rattle.mvn_metadata.specs.Merge.{Entry}
use Rattle.mvn_metadata.specs.Written.{build_version, classifier_line, element, moment_text}
use Rattle.doc_lengths.specs.Counts.{counted}
use Rattle.doc_lengths.proofs.LengthLemmas.{both, length-moment, value-so}
use Rattle.doc_lengths.proofs.lengths.entry_lines.Goals as goal

pub returns : goal.returns
returns c =
    let margin = codes "        " in
    let pair = c.args.pair.now in
    let snapshot = c.args.snapshot.now in
    let e : Entry = (pair, snapshot) in
    let one = classifier_line pair.classifier in
    let two = element margin (codes "extension") pair.extension in
    let three = element margin (codes "value") (build_version e) in
    let four = element margin (codes "updated") (moment_text snapshot.build.stamp) in
    let first = c.classifier_line.ensures pair.classifier (ap length (sym c.as_str-2.ensures)) in
    let second = c.element.ensures margin (codes "extension") pair.extension refl refl (sym (c.str_len.ensures ∙ ap (λ (t : List ℕ). counted (length t)) c.as_str-3.ensures)) in
    let based = c.str_len-base.ensures ∙ ap (λ (t : List ℕ). counted (length t)) c.as_str.ensures in
    let built = c.bytes_len-build.ensures ∙ ap (λ (t : List ℕ). counted (length t)) (c.as_bytes.ensures ∙ c.text.ensures) in
    let third = c.element-2.ensures margin (codes "value") (build_version e) refl refl
    (value-so snapshot.base (text_of_build snapshot.build) c.str_len-base.result c.bytes_len-build.result c.saturating_add.result c.saturating_add-version.result based built c.saturating_add.ensures c.saturating_add-version.ensures) in
    let fourth = c.element-3.ensures margin (codes "updated") (moment_text snapshot.build.stamp) refl refl (ap (λ n. counted n) (length-moment snapshot.build.stamp)) in
    let to_two = both one two c.classifier_line.result c.element.result c.saturating_add-2.result first second c.saturating_add-2.ensures in
    let to_three = both (one ++ two) three c.saturating_add-2.result c.element-2.result c.saturating_add-3.result to_two third c.saturating_add-3.ensures in
    let to_four = both (one ++ two ++ three) four c.saturating_add-3.result c.element-3.result c.saturating_add-lines.result to_three fourth c.saturating_add-lines.ensures in
    c.block.ensures (codes "      ") (codes "snapshotVersion") (one ++ two ++ three ++ four) refl refl (sym to_four)
