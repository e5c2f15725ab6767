-- The blobs of rows are in use: they are so where a row is found, and stay so once a put is over.
use Rattle.std.proofs.Common.{◌≡◌, ℕ, ◌≤◌, List, [], ◌∷◌, Option, Some, None, map, refl, sym, subst}
use Rattle.std.specs.Prelude.{find, IsTrue}
use Rattle.std.specs.Ordering.{match_ordering, nat_cmp}
use Rattle.std.specs.declared.cmp.Ordering.TheVariants.{Less, Equal, Greater}
use Rattle.std.specs.Cmp.Lexicographic.{slice_cmp}
use Rattle.std.specs.Option.{option_map_or}
use Rattle.std.specs.List.{AllByRecursion}
use Rattle.repo_model.specs.Data.{Blob, Row, Hosted}
use Rattle.repo_model.specs.State.{change_where, is_among, is_repository, is_row, row_at}
use Rattle.repo_model.specs.Effect.{with_row, new_row, with_number, list_again, fade, fades}
use Rattle.repo_model.specs.Purge.{due_rows}
use Rattle.repo_model.specs.Turn.{unlist_of}
use Rattle.ordered_rows.specs.Rows.{rows_after_all}
use Rattle.repo_model.specs.Reply.{Reply, created, relisted}
use Rattle.repo_laws.specs.Laws.{count_of, rows_with}
use Rattle.repo_laws.proofs.HoldingLists.{all-change_first, all-change_where}
use Rattle.repo_laws.proofs.Orderly.{found-has}
use Rattle.repo_parts.specs.Hosted.{AreInUse, rows_in, with_rows, rows_put}
use Rattle.repo_parts.specs.Numbers.{kept_put}
use Rattle.repo_parts.specs.Purge.{kept_without}
use Rattle.repo_parts.proofs.AmongLemmas.{all-used, among-new, owned-used, used-more, used-still}

abbrev pub IsUsed : List ℕ → Row → Type 0
IsUsed kept row = IsTrue (is_among row.blob.number kept)

abbrev pub RowsUsed : List ℕ → List Row → Type 0
RowsUsed kept rows = AllByRecursion (IsUsed kept) rows

pub row-used : (kept path : List ℕ) (rows : List Row) (found : Row) → RowsUsed kept rows → row_at path rows ≡ Some found → IsUsed kept found
row-used kept path rows found used is = found-has (IsUsed kept) (is_row path) rows found used is

rows-used : (kept id : List ℕ) (hosted : List Hosted) → AreInUse kept hosted → RowsUsed kept (rows_in id hosted)
rows-used kept id hosted used = by (find (is_repository id) hosted) refl where
  by : (found : Option Hosted) → find (is_repository id) hosted ≡ found → RowsUsed kept (option_map_or (λ (h : Hosted). h.rows) found [])
  by None is = tt
  by (Some h) is = found-has (λ (g : Hosted). RowsUsed kept g.rows) (is_repository id) hosted h used is

-- ---- the numbers of all rows
module _ (kept : List ℕ) where
  pub rows-there : (n : ℕ) (hosted : List Hosted) → AreInUse kept hosted → 1 ≤ rows_with n hosted → IsTrue (is_among n kept)
  rows-there n hosted used some = owned-used (λ (row : Row). row.blob.number) (λ (h : Hosted). h.rows) kept n hosted used some

  pub covered-rows : (hosted : List Hosted) → ((n : ℕ) → 1 ≤ rows_with n hosted → IsTrue (is_among n kept)) → AreInUse kept hosted
  covered-rows hosted each = all-used (λ (row : Row). row.blob.number) (λ (h : Hosted). h.rows) kept hosted each

  pub all-more : (n : ℕ) (hosted : List Hosted) → AreInUse kept hosted → AreInUse (with_number n kept) hosted
  all-more n hosted used = used-more (λ (row : Row). row.blob.number) (λ (h : Hosted). h.rows) kept n hosted used

-- rows of which no blob goes stay in use
pub all-still : (ns kept : List ℕ) (hosted : List Hosted) → ((n : ℕ) → 1 ≤ rows_with n hosted → count_of n ns ≡ 0) → AreInUse kept hosted → AreInUse (kept_without ns kept) hosted
all-still ns kept hosted none used = used-still (λ (row : Row). row.blob.number) (λ (h : Hosted). h.rows) ns kept hosted none used

-- ---- changes of rows
pub row-more : (kept : List ℕ) (row : Row) (rows : List Row) → IsUsed kept row → RowsUsed kept rows → RowsUsed kept (with_row row rows)
row-more kept row [] new used = (new, tt)
row-more kept row (first ∷ rows) new used =
    elim (slice_cmp nat_cmp row.path first.path) as (λ o. RowsUsed kept (match_ordering o (row ∷ first ∷ rows) (row ∷ first ∷ rows) (first ∷ with_row row rows))) [
      | Less ↦ (new, used)
      | Equal ↦ (new, used)
      | Greater ↦ (used.0, row-more kept row rows new used.1)
    ]

again-used : (kept path : List ℕ) (now : ℕ) (rows : List Row) → RowsUsed kept rows → RowsUsed kept (change_where (is_row path) (list_again now) rows)
again-used kept path now rows used = all-change_where (IsUsed kept) (is_row path) (list_again now) (λ row so. so) rows used

fades-used : (kept repo : List ℕ) (now : ℕ) (due rows : List Row) → RowsUsed kept rows → RowsUsed kept (rows_after_all (map (λ (row : Row). fades repo row.path now) due) rows)
fades-used kept repo now [] rows used = used
fades-used kept repo now (row ∷ due) rows used =
    fades-used kept repo now due (change_where (is_row row.path) (fade now) rows) (all-change_where (IsUsed kept) (is_row row.path) (fade now) (λ r so. so) rows used)

unlist-used : (kept : List ℕ) (now : ℕ) (found : Option Hosted) (rows : List Row) → RowsUsed kept rows → RowsUsed kept (rows_after_all (unlist_of now found).effects rows)
unlist-used kept now None rows used = used
unlist-used kept now (Some h) rows used = fades-used kept h.rule.id now (due_rows h.rule now h.rows) rows used

changed-used : (kept id : List ℕ) (rows : List Row) (hosted : List Hosted) → AreInUse kept hosted → RowsUsed kept rows → AreInUse kept (with_rows id rows hosted)
changed-used kept id rows hosted used new = all-change_first (λ (h : Hosted). RowsUsed kept h.rows) (is_repository id) (λ (h : Hosted). record h { rows = rows }) (λ h old. new) hosted used

-- a put is over
pub put-used : (kept id path : List ℕ) (n now : ℕ) (blob : Blob) (reply : Reply) (hosted : List Hosted) → AreInUse kept hosted → blob.number ≡ n
    → AreInUse (kept_put n reply kept) (with_rows id (rows_put path blob now reply (rows_in id hosted)) hosted)
put-used kept id path n now blob created hosted used named =
    let more = all-more kept n hosted used in
    changed-used (with_number n kept) id (with_row (new_row path blob now) (rows_in id hosted)) hosted more
    (row-more (with_number n kept) (new_row path blob now) (rows_in id hosted) (subst (λ m. IsTrue (is_among m (with_number n kept))) (sym named) (among-new n kept)) (rows-used (with_number n kept) id hosted more))
put-used kept id path n now blob relisted hosted used named =
    changed-used kept id (change_where (is_row path) (list_again now) (rows_in id hosted)) hosted used (again-used kept path now (rows_in id hosted) (rows-used kept id hosted used))
put-used kept id path n now blob reply hosted used named = changed-used kept id (rows_in id hosted) hosted used (rows-used kept id hosted used)

-- rows were unlisted
pub unlisted-used : (kept id : List ℕ) (now : ℕ) (hosted : List Hosted) → AreInUse kept hosted
    → AreInUse kept (with_rows id (rows_after_all (unlist_of now (find (is_repository id) hosted)).effects (rows_in id hosted)) hosted)
unlisted-used kept id now hosted used =
    changed-used kept id (rows_after_all (unlist_of now (find (is_repository id) hosted)).effects (rows_in id hosted)) hosted used
    (unlist-used kept now (find (is_repository id) hosted) (rows_in id hosted) (rows-used kept id hosted used))
