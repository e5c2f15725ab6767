-- A row that was visible at a moment stands up to that moment and the grace.
use native.Mathlib.Omega.{arith}
use Rattle.std.proofs.Common.{◌≡◌, ◌≤◌, ◌+◌, ℕ, true, false, List, Some, None, refl, sym, ◌∙◌, ap, subst, option_map}
use Rattle.std.specs.Prelude.{bytes_eq}
use Rattle.std.proofs.lemmas.Bool.{false≢true}
use Rattle.std.proofs.lemmas.Option.{none-some}
use Rattle.repo_model.specs.Data.{Blob, Row}
use Rattle.repo_model.specs.State.{State, change_where, is_row, row_at, rows_of}
use Rattle.repo_model.specs.Effect.{Effect, creates, delivers, relists, fades, expires, with_row, new_row, list_again, fade, without_row, with_effect}
use Rattle.repo_model.specs.May.{May}
use Rattle.repo_laws.specs.Laws.{Stands, LastsFrom}
use Rattle.repo_laws.proofs.HoldingLists.{find-changed}
use Rattle.repo_laws.proofs.Rows.{rows-changed}
use Rattle.repo_laws.proofs.Releases.{is_itself, with_row-elsewhere, change-elsewhere, without-elsewhere, same_path, other_path}

-- the row at a path after the rows there were changed
pub change-there : (path : List ℕ) (f : Row → Row) → ((r : Row) → (f r).path ≡ r.path) → (rows : List Row) (row : Row) → row_at path rows ≡ Some row
    → row_at path (change_where (is_row path) f rows) ≡ Some (f row)
change-there path f keeps rows row found = find-changed (is_row path) f (λ r. ap (λ p. bytes_eq p path) (keeps r)) rows ∙ ap (option_map f) found

module _ (path : List ℕ) (blob : Blob) (t : ℕ) where
  created : (new : Row) (rows : List Row) → row_at new.path rows ≡ None → Stands path blob t rows → Stands path blob t (with_row new rows)
  created new rows free (row, found, same, lasts) =
      (row, with_row-elsewhere path new rows (other_path new.path path (λ here. none-some row (sym free ∙ ap (λ p. row_at p rows) here ∙ found))) ∙ found, same, lasts)

  changed : (at : List ℕ) (f : Row → Row) → ((r : Row) → (f r).path ≡ r.path) → ((r : Row) → (f r).blob ≡ r.blob) → ((r : Row) → LastsFrom t (f r).phase) → (rows : List Row)
      → Stands path blob t rows → Stands path blob t (change_where (is_row at) f rows)
  changed at f keeps keeps_blob lasts_then rows (row, found, same, lasts) =
      elim (bytes_eq at path) as (λ b. bytes_eq at path ≡ b → Stands path blob t (change_where (is_row at) f rows)) [
        | true ↦ λ is.
            let here : at ≡ path = same_path at path is in
            subst (λ (p : List ℕ). Stands path blob t (change_where (is_row p) f rows)) (sym here)
            (f row, change-there path f keeps rows row found, keeps_blob row ∙ same, lasts_then row)
        | false ↦ λ is. (row, change-elsewhere path at f keeps (λ here. false≢true (sym is ∙ ap (λ p. bytes_eq p path) here ∙ is_itself path)) rows ∙ found, same, lasts)
      ] refl

  -- at a moment in the grace each effect keeps it
  pub stands-kept : (grace now : ℕ) (s : State) (e : Effect) (repo : List ℕ) → t ≤ now → now ≤ t + grace → May grace now s e
      → Stands path blob t (rows_of repo s) → Stands path blob t (rows_of repo (with_effect s e))
  stands-kept grace now s (creates at new kept moment) repo early late may stands =
      rows-changed repo at (with_row (new_row new kept moment)) (Stands path blob t) s.hosted stands
      (λ here. created (new_row new kept moment) (rows_of repo s) (subst (λ (id : List ℕ). row_at new (rows_of id s) ≡ None) here may.3) stands)
  stands-kept grace now s (delivers n at new kept moment) repo early late may stands =
      rows-changed repo at (with_row (new_row new kept moment)) (Stands path blob t) s.hosted stands
      (λ here. created (new_row new kept moment) (rows_of repo s) (subst (λ (id : List ℕ). row_at new (rows_of id s) ≡ None) here may.5) stands)
  stands-kept grace now s (relists at old moment) repo early late may stands =
      rows-changed repo at (change_where (is_row old) (list_again moment)) (Stands path blob t) s.hosted stands
      (λ here. changed old (list_again moment) (λ r. refl) (λ r. refl) (λ r. tt) (rows_of repo s) stands)
  stands-kept grace now s (fades at old moment) repo early late may stands =
      rows-changed repo at (change_where (is_row old) (fade moment)) (Stands path blob t) s.hosted stands
      (λ here. changed old (fade moment) (λ r. refl) (λ r. refl) (λ r. subst (λ m. t ≤ m) (sym may.0) early) (rows_of repo s) stands)
  stands-kept grace now s (expires at old number) repo early late may stands =
      rows-changed repo at (without_row old) (Stands path blob t) s.hosted stands
      (λ here.
      let (row, found, same, lasts) = stands in
      let (r, since, found_too, fades_since, _, over) = may in (
        row,
        without-elsewhere path old (λ here_too.
            let one : Some r ≡ Some row = sym found_too ∙ ap (λ id. row_at old (rows_of id s)) here ∙ ap (λ p. row_at p (rows_of repo s)) here_too ∙ found in
            let r_is : r ≡ row = cc in
            let since_late : t ≤ since = subst (LastsFrom t) (ap (λ (x : Row). x.phase) (sym r_is) ∙ fades_since) lasts in
            omega (arith, since_late, over, late)) (rows_of repo s) ∙ found,
        same,
        lasts,
      ))
  stands-kept grace now s e repo early late may stands = stands
