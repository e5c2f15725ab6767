-- Staged files and rows by path, as they are judged.
use Rattle.std.proofs.Common.{◌≡◌, ℕ, Bool, true, false, cond, ◌&&◌, ◌||◌, List, [], ◌∷◌, Option, Some, None, String, Global, string_bytes, bytes_eq, is_eq, refl, sym, ◌∙◌, ap}
use Rattle.std.specs.Prelude.{is_some}
use Rattle.std.proofs.lemmas.Slice.Eq.{bytes_eq-Decides}
use Rattle.std.specs.List.{list_any}
use Rattle.std.specs.Map.{lookup}
use Rattle.outside.specs.declared.parcels.Parcel.{Parcel}
use Rattle.outside.specs.declared.stores.Held.{Ghosts}
use Rattle.repo_model.specs.Data as plain
use Rattle.repo_model.specs.Data.{Staged}
use Rattle.repo_model.specs.Deploy.{has_pom}
use Rattle.repo_model.specs.Document.{is_listed}
use Rattle.repo_model.specs.State.{is_row, is_staged, row_at}
use Rattle.hosted_delivery.specs.Deliveries.{shown_files}
use Rattle.ordered_rows.proofs.MapLemmas.{at_text, same_test}
use Rattle.ordered_rows.proofs.Rising.{AreAfter, AreRising}

-- ---- whether a pom is there
some-cond : {A : Type 0} (b : Bool) (x : A) (o : Option A) → is_some (cond b (Some x) o) ≡ (b || is_some o)
some-cond true x o = refl
some-cond false x o = refl

or-false : (b : Bool) → (b || false) ≡ b
or-false true = refl
or-false false = refl

module _ {X : Type 0} {G : Ghosts X} where
  pub staged-there : (path : List ℕ) (es : List (String Global × Parcel X G)) → is_some (lookup (at_text path) es) ≡ list_any (is_staged path) (shown_files es)
  staged-there path [] = refl
  staged-there path (e ∷ es) =
      some-cond (at_text path e.0) e.1 (lookup (at_text path) es)
      ∙ ap (λ b. b || is_some (lookup (at_text path) es)) (same_test path (string_bytes e.0))
      ∙ ap (λ b. bytes_eq (string_bytes e.0) path || b) (staged-there path es)

abbrev pub shows_listed : Option plain.Row → Bool
shows_listed None = false
shows_listed (Some row) = is_listed row.phase

none-after : (path : List ℕ) (rows : List plain.Row) → AreAfter path rows → list_any (λ (row : plain.Row). is_row path row && is_listed row.phase) rows ≡ false
none-after path [] after = refl
none-after path (row ∷ rows) after =
    let other : is_row path row ≡ false = sym (same_test path row.path) ∙ ap is_eq after.0 in
    ap (λ b. (b && is_listed row.phase) || list_any (λ (r : plain.Row). is_row path r && is_listed r.phase) rows) other ∙ none-after path rows after.1

-- a row at a path is the only one
pub listed-there : (path : List ℕ) (rows : List plain.Row) → AreRising rows → list_any (λ (row : plain.Row). is_row path row && is_listed row.phase) rows ≡ shows_listed (row_at path rows)
listed-there path [] up = refl
listed-there path (row ∷ rows) up =
    let rest : Bool = list_any (λ (r : plain.Row). is_row path r && is_listed r.phase) rows in
    elim (is_row path row) as (λ b. is_row path row ≡ b → ((b && is_listed row.phase) || rest) ≡ shows_listed (cond b (Some row) (row_at path rows))) [
      | true ↦ λ is.
          let path_is : row.path ≡ path = (bytes_eq-Decides row.path path).0 is in
          ap (λ b. is_listed row.phase || b) (ap (λ p. list_any (λ (r : plain.Row). is_row p r && is_listed r.phase) rows) (sym path_is) ∙ none-after row.path rows up.0) ∙ or-false (is_listed row.phase)
      | false ↦ λ is. listed-there path rows up.1
    ] refl

pub pom-there : (pom : List ℕ) (files : List Staged) (rows : List plain.Row) → AreRising rows → list_any (is_staged pom) files ≡ false → has_pom rows files pom ≡ shows_listed (row_at pom rows)
pom-there pom files rows up none = ap (λ b. b || list_any (λ (row : plain.Row). is_row pom row && is_listed row.phase) rows) none ∙ listed-there pom rows up
