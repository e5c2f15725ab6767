use Rattle.std.proofs.Common.{List, ℕ, refl, sym, ap, length, ◌∙◌}
use Rattle.std.specs.Prelude.{codes}
use Rattle.std.specs.Option.{option_map}
use Rattle.mvn_metadata.specs.Written.{listing_lines}
use Rattle.doc_lengths.specs.Counts.{counted}
use Rattle.doc_lengths.proofs.LengthLemmas.{text-so}
use Rattle.doc_lengths.proofs.lengths.text_length.Goals as goal

pub returns : goal.returns
returns c =
    let d = c.args.doc.now in
    text-so d c.element_if-group.result c.element_if-artifact.result c.listing_lines.result c.saturating_add.result c.saturating_add-lines.result c.saturating_add-2.result
    (c.element_if-group.ensures (codes "  ") (codes "groupId") d.group refl refl (sym (c.group_len.ensures ∙ ap (λ o. option_map (λ (x : List ℕ). counted (length x)) o) c.group.ensures)))
    (c.element_if-artifact.ensures (codes "  ") (codes "artifactId") d.artifact refl refl (sym (c.text_len.ensures ∙ ap (λ o. option_map (λ (x : List ℕ). counted (length x)) o) c.artifact.ensures)))
    (c.listing_lines.ensures ∙ ap (λ l. counted (length (listing_lines l))) c.listing.ensures.listing)
    c.saturating_add.ensures c.saturating_add-lines.ensures c.saturating_add-2.ensures
