-- How changes of documents in their places are undone.
use Rattle.std.specs.Prelude.{◌≡◌, ℕ, if◌then◌else◌, bytes_eq, List, Option, Some, None, IsSome, string_bytes}
use Rattle.mvn_digest.specs.Digests.{digests_of}
use Rattle.mvn_metadata.specs.Document.{Document}
use Rattle.mvn_metadata.specs.Undo.{undone}
use Rattle.mvn_metadata.specs.Written as form
use Rattle.mvn_metadata.specs.declared.undo.Undo.{Undo}
use Rattle.kept_docs.specs.declared.changing.Before.{Before}
use Rattle.kept_docs.specs.declared.changing.Before.TheVariants.{Nothing, Other, Shorter}
use Rattle.kept_docs.specs.declared.changing.Change.{Change}
use Rattle.kept_docs.specs.declared.changing.RowChange.{RowChange}
use Rattle.kept_docs.specs.declared.docs.Docs.{Docs}
use Rattle.kept_docs.specs.Kept.{kept_at}

-- a document as it was before one more version
abbrev pub as_before : Document → Undo → Document
as_before doc undo = record doc { listing = undone doc.listing undo }

-- the document of a directory before it changed, by the one that it has now
abbrev pub document_before : Before → Option Document → Option Document
document_before Nothing now = None
document_before (Other kept) now = Some kept.doc
document_before (Shorter undo text digests) None = None
document_before (Shorter undo text digests) (Some doc) = Some (as_before doc undo)

-- the text and the digests that are kept are those of the document before
abbrev pub IsBefore : Before → Option Document → Type 0
IsBefore Nothing now = Unit {0}
IsBefore (Other kept) now = IsSome now
IsBefore (Shorter undo text digests) None = ⊥
IsBefore (Shorter undo text digests) (Some doc) = (text ≡ form.text (as_before doc undo)) × (digests ≡ digests_of text)

-- documents by the paths of their directories, without a change
abbrev pub without_change : Option Change → (List ℕ → Option Document) → List ℕ → Option Document
without_change None docs text = docs text
without_change (Some change) docs text = if bytes_eq text (string_bytes change.path) then document_before change.before (docs text) else docs text

-- a change can be undone
abbrev pub CanUndo : Option Change → (List ℕ → Option Document) → Type 0
CanUndo None docs = Unit {0}
CanUndo (Some change) docs = IsBefore change.before (docs (string_bytes change.path))

-- a change is undone to give documents back
pub record IsUndo (change : Option Change) (old new : List ℕ → Option Document) : Type 0 where
  pub back : (text : List ℕ) → without_change change new text ≡ old text
  pub can : CanUndo change new

-- the document that a path had before those of a row's directories changed
abbrev pub kept_before : List ℕ → RowChange → Docs → Option Document
kept_before text change docs = without_change change.artifact (without_change change.version (λ t. kept_at t docs)) text

-- both changes can be undone, the last one first
abbrev pub CanUndoRow : RowChange → Docs → Type 0
CanUndoRow change docs = CanUndo change.version (λ t. kept_at t docs) × CanUndo change.artifact (without_change change.version (λ t. kept_at t docs))

-- what a row changed is undone to give documents back
pub record IsUndoOfRow (change : RowChange) (old new : Docs) : Type 0 where
  pub back : (text : List ℕ) → kept_before text change new ≡ kept_at text old
  pub can : CanUndoRow change new
