-- The greatest moment of the entries of a map is that of its values.
use Rattle.std.proofs.Common.{◌≡◌, ℕ, List, [], ◌∙◌, sym}
use Rattle.std.specs.Prelude.{fold, max}
use Rattle.std.specs.Map.{values_of}
use Rattle.std.proofs.lemmas.List.Folds.{fold-map}
use Rattle.repo_model.specs.Tables.{RecordedRow, RecordedDocument, moment_of}
use Rattle.row_tables.specs.declared.files.FileRow.{FileRow}
use Rattle.row_tables.specs.declared.documents.KeptDocument.{KeptDocument}
use Rattle.row_tables.specs.Stored.{Place, shown_row, shown_entry, shown_rows, shown_document, shown_documents}

pub files-latest : (m : ℕ) (entries : List (Place × FileRow))
    → fold (λ m (r : RecordedRow). max m (moment_of r.row)) m (shown_rows entries) ≡ fold (λ m (row : FileRow). max m (moment_of (shown_row [] row))) m (values_of entries)
files-latest m entries =
    fold-map (λ (m : ℕ) (r : RecordedRow). max m (moment_of r.row)) shown_entry m entries
    ∙ sym (fold-map (λ (m : ℕ) (row : FileRow). max m (moment_of (shown_row [] row))) (λ (e : Place × FileRow). e.1) m entries)

pub documents-latest : (m : ℕ) (entries : List (Place × KeptDocument))
    → fold (λ m (d : RecordedDocument). max m d.checked) m (shown_documents entries) ≡ fold (λ m (kept : KeptDocument). max m kept.checked) m (values_of entries)
documents-latest m entries =
    fold-map (λ (m : ℕ) (d : RecordedDocument). max m d.checked) shown_document m entries
    ∙ sym (fold-map (λ (m : ℕ) (kept : KeptDocument). max m kept.checked) (λ (e : Place × KeptDocument). e.1) m entries)
