use Rattle.std.proofs.Common.{List, ℕ, refl, sym, ap, length, ◌∙◌}
use Rattle.std.specs.Prelude.{codes}
use Rattle.mvn_metadata.specs.Written.{artifact_lines, block, element, listing_lines, snapshot_lines}
use Rattle.doc_lengths.specs.Counts.{counted}
use Rattle.doc_lengths.proofs.LengthLemmas.{both}
use Rattle.doc_lengths.proofs.lengths.listing_lines.Goals as goal

pub returns-in-Artifact : goal.returns-in-Artifact
returns-in-Artifact c =
    c.block.ensures (codes "  ") (codes "versioning") (artifact_lines c.in-Artifact.versions c.in-Artifact.updated) refl refl (sym c.artifact_lines.ensures)
    ∙ ap (λ l. counted (length (listing_lines l))) (sym c.in-Artifact.is)

pub returns-in-Snapshot : goal.returns-in-Snapshot
returns-in-Snapshot c =
    let base = c.in-Snapshot.base in
    let lines = snapshot_lines c.in-Snapshot.newest c.in-Snapshot.entries in
    let blocked = c.block-lines.ensures (codes "  ") (codes "versioning") lines refl refl (sym c.snapshot_lines.ensures) in
    let based = c.element.ensures (codes "  ") (codes "version") base refl refl (sym (c.str_len.ensures ∙ ap (λ (t : List ℕ). counted (length t)) c.as_str.ensures)) in
    both (element (codes "  ") (codes "version") base) (block (codes "  ") (codes "versioning") lines) c.element.result c.block-lines.result c.saturating_add.result based blocked c.saturating_add.ensures
    ∙ ap (λ l. counted (length (listing_lines l))) (sym c.in-Snapshot.is)
