-- Documents that are kept are those of the rows, as these change.
use Rattle.std.proofs.Common.{◌≡◌, ℕ, List, Some, None, unwrap_or, refl, sym, ap, ◌∙◌}
use Rattle.mvn_coords.specs.Layout.{Directory, text_of_directory}
use Rattle.mvn_coords.specs.Path.{IsDirectory}
use Rattle.repo_model.specs.Data.{Blob, Row, fading}
use Rattle.repo_model.specs.Document.{document}
use Rattle.repo_model.specs.Effect.{list_again, new_row, with_row}
use Rattle.repo_model.specs.State.{change_where, is_row, row_at}
use Rattle.directory_rows.specs.Documents.{added}
use Rattle.ordered_rows.proofs.Rising.{AreRising}
use Rattle.kept_docs.specs.Kept.{AreOf, AreSame, kept_at}
use Rattle.kept_docs.specs.Drafted.{AreDrafted, AreRight, draft_at, drafted}
use Rattle.kept_docs.specs.Placed.{WillBeOf, placed}
use Rattle.kept_docs.specs.Undone.{IsUndoOfRow, kept_before}
use Rattle.kept_docs.specs.declared.changing.RowChange.{RowChange}
use Rattle.kept_docs.specs.declared.docs.Docs.{Docs}
use Rattle.kept_docs.specs.declared.drafts.Drafts.{Drafts}
use Rattle.kept_docs.specs.declared.pages.Page.{Page}
use Rattle.kept_docs.proofs.Beside.{document-again, document-with_row}

pub same_of : (docs others : Docs) (rows : List Row) → AreSame docs others → AreOf docs rows → AreOf others rows
same_of docs others rows same are = λ d is. same (text_of_directory d) ∙ are d is

pub placed_of : (docs new : Docs) (pages : List Page) (rows : List Row) → ((text : List ℕ) → kept_at text new ≡ placed text docs pages) → WillBeOf docs pages rows → AreOf new rows
placed_of docs new pages rows put will = λ d is. put (text_of_directory d) ∙ will d is

-- pages that are drafts as they are written
pub drafted_of : (old docs : Docs) (drafts : Drafts) (pages : List Page) (rows : List Row) → ((text : List ℕ) → placed text docs pages ≡ drafted text old drafts) → AreDrafted old drafts rows → WillBeOf docs pages rows
drafted_of old docs drafts pages rows written are = λ d is. written (text_of_directory d) ∙ are d is

-- documents with one more visible row
abbrev pub AddRow : Docs → Docs → List ℕ → ℕ → Type 0
AddRow old new path accepted = (d : Directory) (blob : Blob) → IsDirectory d → kept_at (text_of_directory d) new ≡ added d (kept_at (text_of_directory d) old) (new_row path blob accepted)

pub row_of : (old new : Docs) (path : List ℕ) (blob : Blob) (accepted : ℕ) (rows after : List Row) → AreOf old rows → AddRow old new path accepted
    → after ≡ with_row (new_row path blob accepted) rows → AreOf new after
row_of old new path blob accepted rows after are add made = λ d is.
    add d blob is ∙ ap (λ doc. added d doc (new_row path blob accepted)) (are d is) ∙ sym (document-with_row d (new_row path blob accepted) rows) ∙ ap (document d) (sym made)

pub again_of : (old new : Docs) (path : List ℕ) (accepted since : ℕ) (row : Row) (rows after : List Row) → AreOf old rows → AddRow old new path accepted
    → AreRising rows → row_at path rows ≡ Some row → row.phase ≡ fading since → after ≡ change_where (is_row path) (list_again accepted) rows → AreOf new after
again_of old new path accepted since row rows after are add rising found fades made = λ d is.
    add d row.blob is ∙ ap (λ doc. added d doc (new_row path row.blob accepted)) (are d is) ∙ sym (document-again d path accepted since row rows rising found fades) ∙ ap (document d) (sym made)

-- a change of documents that is undone
pub undone_of : (old new back : Docs) (change : RowChange) (rows : List Row) → IsUndoOfRow change old new → ((text : List ℕ) → kept_at text back ≡ kept_before text change new) → AreOf old rows → AreOf back rows
undone_of old new back change rows undo undone are = λ d is. undone (text_of_directory d) ∙ undo.back (text_of_directory d) ∙ are d is

-- drafts that are right, beside documents that stay where nothing is drafted
pub right_of : (old : Docs) (drafts : Drafts) (rows : List Row) → AreRight drafts rows
    → ((d : Directory) → IsDirectory d → draft_at (text_of_directory d) drafts ≡ None → kept_at (text_of_directory d) old ≡ document d rows) → AreDrafted old drafts rows
right_of old drafts rows right others = λ d is.
    elim (draft_at (text_of_directory d) drafts) as (λ o. draft_at (text_of_directory d) drafts ≡ o → unwrap_or o (kept_at (text_of_directory d) old) ≡ document d rows) [
      | None ↦ λ none. others d is none
      | Some doc ↦ λ some. right d is doc some
    ] refl
