-- When the document of a directory stays as rows change, and what it becomes by one more visible row.
use Rattle.std.proofs.Common.{◌≡◌, ℕ, ◌-◌, true, false, cond, ◌&&◌, List, [], ◌∷◌, Some, unwrap_or, refl, sym, ap, ◌∙◌, Less, Equal, Greater}
use Rattle.std.specs.Cmp.Lexicographic.{slice_cmp}
use Rattle.std.specs.Ordering.{match_ordering, nat_cmp}
use Rattle.std.proofs.lemmas.Slice.Eq.{bytes_eq-Decides}
use Rattle.std.specs.Prelude.{bytes_eq, nat_lt}
use Rattle.mvn_coords.specs.Layout.{Directory}
use Rattle.mvn_metadata.specs.Document.{settled, blank}
use Rattle.repo_model.specs.Data.{Row, Phase, listed, fading}
use Rattle.repo_model.specs.Document.{is_listed, listed_in, described, document}
use Rattle.repo_model.specs.Effect.{list_again, new_row, with_row}
use Rattle.repo_model.specs.Paths.{file_at, stands_in}
use Rattle.repo_model.specs.State.{change_where, is_row, row_at}
use Rattle.directory_rows.specs.Documents.{added, with_listed}
use Rattle.ordered_rows.specs.Rows.{goes, without_first}
use Rattle.ordered_rows.proofs.Rising.{AreRising}
use Rattle.std.proofs.lemmas.Bool.{and_right}
use Rattle.kept_docs.proofs.Moved.{counts, one_more, with_again, with_one}

as_document : (d : Directory) (rows others : List Row) → listed_in d rows ≡ listed_in d others → document d rows ≡ document d others
as_document d rows others same = ap (described (settled blank d)) same

-- a row that goes is not visible
gone_counts : (d : Directory) (n limit : ℕ) (row : Row) → goes n limit row.phase ≡ true → counts d row ≡ false
gone_counts d n limit row is = by row.phase is
  where
    by : (phase : Phase) → goes n limit phase ≡ true → (is_listed phase && stands_in d (file_at row.path)) ≡ false
    by listed is = let no : false ≡ true = sym (and_right (nat_lt 0 n) false refl) ∙ is in absurd cc
    by (fading since) is = refl

listed_after_first : (d : Directory) (n limit : ℕ) (rows : List Row) → listed_in d (without_first n limit rows) ≡ listed_in d rows
listed_after_first d n limit [] = refl
listed_after_first d n limit (row ∷ rows) =
    elim (goes n limit row.phase) as (λ b. goes n limit row.phase ≡ b → listed_in d (cond b (without_first (n - 1) limit rows) (row ∷ without_first n limit rows)) ≡ cond (counts d row) (row ∷ listed_in d rows) (listed_in d rows)) [
      | true ↦ λ is. listed_after_first d (n - 1) limit rows ∙ sym (ap (λ b. cond b (row ∷ listed_in d rows) (listed_in d rows)) (gone_counts d n limit row is))
      | false ↦ λ is. ap (λ (l : List Row). cond (counts d row) (row ∷ l) l) (listed_after_first d n limit rows)
    ] refl

pub document_after_first : (d : Directory) (n limit : ℕ) (rows : List Row) → document d (without_first n limit rows) ≡ document d rows
document_after_first d n limit rows = as_document d (without_first n limit rows) rows (listed_after_first d n limit rows)

-- one more row that does not count for the directory
listed_beside : (d : Directory) (new : Row) (rows : List Row) → counts d new ≡ false → listed_in d (with_row new rows) ≡ listed_in d rows
listed_beside d new [] none = ap (λ b. cond b (new ∷ []) []) none
listed_beside d new (row ∷ rows) none =
    let there : listed_in d (new ∷ row ∷ rows) ≡ listed_in d (row ∷ rows) = ap (λ b. cond b (new ∷ listed_in d (row ∷ rows)) (listed_in d (row ∷ rows))) none in
    elim (slice_cmp nat_cmp new.path row.path) as (λ o. listed_in d (match_ordering o (new ∷ row ∷ rows) (new ∷ row ∷ rows) (row ∷ with_row new rows)) ≡ listed_in d (row ∷ rows)) [
      | Less ↦ there
      | Equal ↦ there
      | Greater ↦ ap (λ (l : List Row). cond (counts d row) (row ∷ l) l) (listed_beside d new rows none)
    ]

-- a row at a path that is not the directory's changes
listed_elsewhere : (d : Directory) (path : List ℕ) (f : Row → Row) (rows : List Row) → ((row : Row) → (f row).path ≡ row.path) → stands_in d (file_at path) ≡ false
    → listed_in d (change_where (is_row path) f rows) ≡ listed_in d rows
listed_elsewhere d path f [] keeps none = refl
listed_elsewhere d path f (row ∷ rows) keeps none =
    elim (bytes_eq row.path path) as (λ b. bytes_eq row.path path ≡ b → listed_in d (cond b (f row) row ∷ change_where (is_row path) f rows) ≡ listed_in d (row ∷ rows)) [
      | true ↦ λ is.
          let at : row.path ≡ path = (bytes_eq-Decides row.path path).0 is in
          let old : counts d row ≡ false = and_right (is_listed row.phase) (stands_in d (file_at row.path)) (ap (λ p. stands_in d (file_at p)) at ∙ none) in
          let new : counts d (f row) ≡ false = and_right (is_listed (f row).phase) (stands_in d (file_at (f row).path)) (ap (λ p. stands_in d (file_at p)) (keeps row ∙ at) ∙ none) in
          ap (λ b. cond b (f row ∷ listed_in d (change_where (is_row path) f rows)) (listed_in d (change_where (is_row path) f rows))) new
          ∙ listed_elsewhere d path f rows keeps none
          ∙ sym (ap (λ b. cond b (row ∷ listed_in d rows) (listed_in d rows)) old)
      | false ↦ λ is. ap (λ (l : List Row). cond (counts d row) (row ∷ l) l) (listed_elsewhere d path f rows keeps none)
    ] refl

pub document_elsewhere : (d : Directory) (path : List ℕ) (f : Row → Row) (rows : List Row) → ((row : Row) → (f row).path ≡ row.path) → stands_in d (file_at path) ≡ false
    → document d (change_where (is_row path) f rows) ≡ document d rows
document_elsewhere d path f rows keeps none = as_document d (change_where (is_row path) f rows) rows (listed_elsewhere d path f rows keeps none)

-- one more row, whether it counts or not
pub document-with_row : (d : Directory) (new : Row) (rows : List Row) → document d (with_row new rows) ≡ added d (document d rows) new
document-with_row d new rows =
    elim (counts d new) as (λ b. counts d new ≡ b → document d (with_row new rows) ≡ cond b (Some (with_listed (unwrap_or (document d rows) (settled blank d)) new)) (document d rows)) [
      | true ↦ λ is. one_more d new rows (with_row new rows) is (with_one d new is rows)
      | false ↦ λ is. as_document d (with_row new rows) rows (listed_beside d new rows is)
    ] refl

-- the row at a path is visible again
pub document-again : (d : Directory) (path : List ℕ) (moment since : ℕ) (row : Row) (rows : List Row) → AreRising rows → row_at path rows ≡ Some row → row.phase ≡ fading since
    → document d (change_where (is_row path) (list_again moment) rows) ≡ added d (document d rows) (new_row path row.blob moment)
document-again d path moment since row rows rising found fades =
    let new : Row = new_row path row.blob moment in
    let after : List Row = change_where (is_row path) (list_again moment) rows in
    elim (stands_in d (file_at path)) as (λ b. stands_in d (file_at path) ≡ b → document d after ≡ cond b (Some (with_listed (unwrap_or (document d rows) (settled blank d)) new)) (document d rows)) [
      | true ↦ λ is. one_more d new rows after is (with_again d path moment since row rows rising found fades is)
      | false ↦ λ is. document_elsewhere d path (list_again moment) rows (λ r. refl) is
    ] refl
