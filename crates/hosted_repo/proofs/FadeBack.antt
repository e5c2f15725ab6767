-- Rows that fade and are visible again as they were; the documents of directories where none of them is.
use Rattle.std.proofs.Common.{◌≡◌, ℕ, Bool, true, false, cond, ◌||◌, ◌&&◌, List, [], ◌∷◌, filter, map, take, Some, String, Global, string_bytes, bytes_eq, is_eq, refl, sym, ◌∙◌, ap, zero, suc}
use Rattle.std.specs.List.{AllByRecursion, list_any}
use Rattle.std.specs.Option.{option_map_or}
use Rattle.std.proofs.lemmas.Bool.{and_parts, false_from_ne_true}
use Rattle.std.proofs.lemmas.Slice.Eq.{bytes_eq-Decides}
use Rattle.mvn_coords.specs.Layout.{Directory}
use Rattle.repo_model.specs.Data.{Phase, Row, fading, listed}
use Rattle.repo_model.specs.Document.{document, is_listed}
use Rattle.repo_model.specs.Effect.{fade, list_again}
use Rattle.repo_model.specs.Paths.{file_at}
use Rattle.repo_model.specs.Purge.{due_rows, is_due_at, most_rows}
use Rattle.repo_model.specs.Settings.{Rule}
use Rattle.repo_model.specs.State.{change_where, is_row, row_at}
use Rattle.ordered_rows.specs.Rows.{rows_after_all}
use Rattle.ordered_rows.proofs.MapLemmas.{same_test}
use Rattle.ordered_rows.proofs.Rising.{AreAfter, AreRising}
use Rattle.kept_docs.proofs.Beside.{document_elsewhere}
use Rattle.hosted_repo.specs.Fades.{AreApartFrom, accepted_at, fade_at_paths, listed_back}

-- ---- one row
abbrev faded_row : ℕ → List (String Global) → Row → Row
faded_row now [] row = row
faded_row now (path ∷ paths) row = faded_row now paths (cond (is_row (string_bytes path) row) (fade now row) row)

abbrev back_row : List (String Global) → List ℕ → Row → Row
back_row [] moments row = row
back_row (path ∷ paths) [] row = row
back_row (path ∷ paths) (moment ∷ moments) row = back_row paths moments (cond (is_row (string_bytes path) row) (list_again moment row) row)

abbrev among : List (String Global) → Row → Bool
among paths row = list_any (λ (path : String Global). is_row (string_bytes path) row) paths

-- a row at one of the paths, that fades or does not
faded_once : (now : ℕ) (paths : List (String Global)) (row : Row) → faded_row now paths (fade now row) ≡ fade now row
faded_once now [] row = refl
faded_once now (path ∷ paths) row = elim (is_row (string_bytes path) row) as (λ b. faded_row now paths (cond b (fade now (fade now row)) (fade now row)) ≡ fade now row) [ true ↦ faded_once now paths row | false ↦ faded_once now paths row ]

faded_by : (now : ℕ) (paths : List (String Global)) (row : Row) → faded_row now paths row ≡ cond (among paths row) (fade now row) row
faded_by now [] row = refl
faded_by now (path ∷ paths) row =
    elim (is_row (string_bytes path) row) as (λ b. faded_row now paths (cond b (fade now row) row) ≡ cond (b || among paths row) (fade now row) row) [ true ↦ faded_once now paths row | false ↦ faded_by now paths row ]

-- each moment is the row's, where the path is
abbrev AreMoments : Row → List (String Global) → List ℕ → Type 0
AreMoments row [] moments = Unit {0}
AreMoments row (path ∷ paths) [] = ⊥
AreMoments row (path ∷ paths) (moment ∷ moments) = (is_row (string_bytes path) row ≡ true → moment ≡ row.accepted) × AreMoments row paths moments

abbrev as_was : ℕ → Row → Row
as_was accepted row = record row { accepted = accepted; phase = listed }

backed_once : (paths : List (String Global)) (moments : List ℕ) (row r : Row) → r.path ≡ row.path → AreMoments row paths moments → back_row paths moments (as_was row.accepted r) ≡ as_was row.accepted r
backed_once [] moments row r at are = refl
backed_once (path ∷ paths) [] row r at are = absurd are
backed_once (path ∷ paths) (moment ∷ moments) row r at are =
    elim (is_row (string_bytes path) r) as (λ b. is_row (string_bytes path) r ≡ b → back_row paths moments (cond b (list_again moment r) (as_was row.accepted r)) ≡ as_was row.accepted r) [
      | true ↦ λ is.
          let own : moment ≡ row.accepted = are.0 (ap (λ p. bytes_eq p (string_bytes path)) (sym at) ∙ is) in
          ap (λ m. back_row paths moments (as_was m r)) own ∙ backed_once paths moments row r at are.1
      | false ↦ λ is. backed_once paths moments row r at are.1
    ] refl

backed_by : (paths : List (String Global)) (moments : List ℕ) (row r : Row) → r.path ≡ row.path → AreMoments row paths moments → back_row paths moments r ≡ cond (among paths r) (as_was row.accepted r) r
backed_by [] moments row r at are = refl
backed_by (path ∷ paths) [] row r at are = absurd are
backed_by (path ∷ paths) (moment ∷ moments) row r at are =
    elim (is_row (string_bytes path) r) as (λ b. is_row (string_bytes path) r ≡ b → back_row paths moments (cond b (list_again moment r) r) ≡ cond (b || among paths r) (as_was row.accepted r) r) [
      | true ↦ λ is.
          let own : moment ≡ row.accepted = are.0 (ap (λ p. bytes_eq p (string_bytes path)) (sym at) ∙ is) in
          ap (λ m. back_row paths moments (as_was m r)) own ∙ backed_once paths moments row r at are.1
      | false ↦ λ is. backed_by paths moments row r at are.1
    ] refl

-- a row comes back as it was, where it was visible at its paths
came_back : (now : ℕ) (paths : List (String Global)) (moments : List ℕ) (row : Row) → AreMoments row paths moments → (among paths row ≡ true → row.phase ≡ listed)
    → back_row paths moments (faded_row now paths row) ≡ row
came_back now paths moments row are visible =
    ap (back_row paths moments) (faded_by now paths row)
    ∙ elim (among paths row) as (λ b. among paths row ≡ b → back_row paths moments (cond b (fade now row) row) ≡ row) [
      | true ↦ λ is.
          backed_by paths moments row (fade now row) refl are
          ∙ ap (λ b. cond b (as_was row.accepted (fade now row)) (fade now row)) is
          ∙ (λ i. record row { phase = sym (visible is) i })
      | false ↦ λ is. backed_by paths moments row row refl are ∙ ap (λ b. cond b (as_was row.accepted row) row) is
    ] refl

-- ---- all rows
each_faded : (repo : List ℕ) (now : ℕ) (paths : List (String Global)) (row : Row) (rows : List Row)
    → rows_after_all (fade_at_paths repo now paths) (row ∷ rows) ≡ faded_row now paths row ∷ rows_after_all (fade_at_paths repo now paths) rows
each_faded repo now [] row rows = refl
each_faded repo now (path ∷ paths) row rows = each_faded repo now paths (cond (is_row (string_bytes path) row) (fade now row) row) (change_where (is_row (string_bytes path)) (fade now) rows)

none_faded : (repo : List ℕ) (now : ℕ) (paths : List (String Global)) → rows_after_all (fade_at_paths repo now paths) [] ≡ []
none_faded repo now [] = refl
none_faded repo now (path ∷ paths) = none_faded repo now paths

each_back : (paths : List (String Global)) (moments : List ℕ) (row : Row) (rows : List Row) → listed_back paths moments (row ∷ rows) ≡ back_row paths moments row ∷ listed_back paths moments rows
each_back [] moments row rows = refl
each_back (path ∷ paths) [] row rows = refl
each_back (path ∷ paths) (moment ∷ moments) row rows = each_back paths moments (cond (is_row (string_bytes path) row) (list_again moment row) row) (change_where (is_row (string_bytes path)) (list_again moment) rows)

none_back : (paths : List (String Global)) (moments : List ℕ) → listed_back paths moments [] ≡ []
none_back [] moments = refl
none_back (path ∷ paths) [] = refl
none_back (path ∷ paths) (moment ∷ moments) = none_back paths moments

-- what each row needs to come back
pub record ComesBack (paths : List (String Global)) (moments : List ℕ) (row : Row) : Type 0 where
  pub accepted : AreMoments row paths moments
  pub visible : among paths row ≡ true → row.phase ≡ listed

all_back : (repo : List ℕ) (now : ℕ) (paths : List (String Global)) (moments : List ℕ) (rows : List Row) → AllByRecursion (ComesBack paths moments) rows
    → listed_back paths moments (rows_after_all (fade_at_paths repo now paths) rows) ≡ rows
all_back repo now paths moments [] all = ap (listed_back paths moments) (none_faded repo now paths) ∙ none_back paths moments
all_back repo now paths moments (row ∷ rows) all =
    ap (listed_back paths moments) (each_faded repo now paths row rows)
    ∙ each_back paths moments (faded_row now paths row) (rows_after_all (fade_at_paths repo now paths) rows)
    ∙ (λ i. came_back now paths moments row all.0.accepted all.0.visible i ∷ all_back repo now paths moments rows all.1 i)

-- ---- rows of which each path stands once
abbrev IsFound : List Row → Row → Type 0
IsFound rows row = row_at row.path rows ≡ Some row

found_later : (first : Row) (rows others : List Row) → AreAfter first.path others → AllByRecursion (IsFound rows) others → AllByRecursion (IsFound (first ∷ rows)) others
found_later first rows [] after all = tt
found_later first rows (row ∷ others) after all =
    let elsewhere : is_row row.path first ≡ false = swapped in
    (ap (λ b. cond b (Some first) (row_at row.path rows)) elsewhere ∙ all.0, found_later first rows others after.1 all.1)
  where
    turned : (a b : List ℕ) → bytes_eq a b ≡ false → bytes_eq b a ≡ false
    turned a b off = false_from_ne_true (bytes_eq b a) (λ is. let wrong : false ≡ true = sym off ∙ (bytes_eq-Decides a b).1 (sym ((bytes_eq-Decides b a).0 is)) in absurd cc)

    swapped : bytes_eq first.path row.path ≡ false
    swapped = turned row.path first.path (sym (same_test first.path row.path) ∙ ap is_eq after.0)

pub all_found : (rows : List Row) → AreRising rows → AllByRecursion (IsFound rows) rows
all_found [] rising = tt
all_found (row ∷ rows) rising =
    (ap (λ b. cond b (Some row) (row_at row.path rows)) ((bytes_eq-Decides row.path row.path).1 refl), found_later row rows rows rising.0 (all_found rows rising.1))

-- the rows at the paths are visible
abbrev pub AreVisible : List Row → List (String Global) → Type 0
AreVisible rows paths = AllByRecursion (λ (path : String Global). (row : Row) → row_at (string_bytes path) rows ≡ Some row → is_listed row.phase ≡ true) paths

is_visible : (p : Phase) → is_listed p ≡ true → p ≡ listed
is_visible listed is = refl
is_visible (fading since) is = absurd cc

own_moments : (rows : List Row) (row : Row) (paths : List (String Global)) → IsFound rows row → AreMoments row paths (accepted_at rows paths)
own_moments rows row [] found = tt
own_moments rows row (path ∷ paths) found = (
  λ is. ap (λ o. option_map_or (λ (r : Row). r.accepted) o 0) (ap (λ p. row_at p rows) (sym ((bytes_eq-Decides row.path (string_bytes path)).0 is)) ∙ found),
  own_moments rows row paths found,
)

own_phase : (rows : List Row) (row : Row) (paths : List (String Global)) → IsFound rows row → AreVisible rows paths → among paths row ≡ true → row.phase ≡ listed
own_phase rows row [] found visible is = absurd cc
own_phase rows row (path ∷ paths) found visible is =
    elim (is_row (string_bytes path) row) as (λ b. is_row (string_bytes path) row ≡ b → (b || among paths row) ≡ true → row.phase ≡ listed) [
      | true ↦ λ here some. is_visible row.phase (visible.0 row (ap (λ p. row_at p rows) (sym ((bytes_eq-Decides row.path (string_bytes path)).0 here)) ∙ found))
      | false ↦ λ there some. own_phase rows row paths found visible.1 some
    ] refl is

each_comes : (rows others : List Row) (paths : List (String Global)) → AllByRecursion (IsFound rows) others → AreVisible rows paths → AllByRecursion (ComesBack paths (accepted_at rows paths)) others
each_comes rows [] paths found visible = tt
each_comes rows (row ∷ others) paths found visible =
    (record { accepted = own_moments rows row paths found.0; visible = own_phase rows row paths found.0 visible }, each_comes rows others paths found.1 visible)

pub faded_back : (repo : List ℕ) (now : ℕ) (paths : List (String Global)) (rows : List Row) → AreRising rows → AreVisible rows paths
    → listed_back paths (accepted_at rows paths) (rows_after_all (fade_at_paths repo now paths) rows) ≡ rows
faded_back repo now paths rows rising visible = all_back repo now paths (accepted_at rows paths) rows (each_comes rows rows paths (all_found rows rising) visible)

-- ---- rows that are due are visible
abbrev IsDueSo : List Row → Row → Type 0
IsDueSo rows row = IsFound rows row × (is_listed row.phase ≡ true)

due_so : (rule : Rule) (now : ℕ) (all rows others : List Row) → AllByRecursion (IsFound rows) others → AllByRecursion (IsDueSo rows) (filter (λ (row : Row). is_listed row.phase && is_due_at rule now all (file_at row.path)) others)
due_so rule now all rows [] found = tt
due_so rule now all rows (row ∷ others) found =
    let test : Bool = is_listed row.phase && is_due_at rule now all (file_at row.path) in
    let rest : List Row = filter (λ (r : Row). is_listed r.phase && is_due_at rule now all (file_at r.path)) others in
    elim (is_listed row.phase && is_due_at rule now all (file_at row.path)) as (λ b. (is_listed row.phase && is_due_at rule now all (file_at row.path)) ≡ b → AllByRecursion (IsDueSo rows) (cond b (row ∷ rest) rest)) [
      | true ↦ λ is. ((found.0, (and_parts (is_listed row.phase) (is_due_at rule now all (file_at row.path)) is).0), due_so rule now all rows others found.1)
      | false ↦ λ is. due_so rule now all rows others found.1
    ] refl

first_so : (rows : List Row) (n : ℕ) (due : List Row) → AllByRecursion (IsDueSo rows) due → AllByRecursion (IsDueSo rows) (take n due)
first_so rows zero due all = tt
first_so rows (suc n) [] all = tt
first_so rows (suc n) (row ∷ due) all = (all.0, first_so rows n due all.1)

some_row : (a b : Row) → Some a ≡ Some b → a ≡ b
some_row a b is = cc

visible_at : (rows due : List Row) (paths : List (String Global)) → map string_bytes paths ≡ map (λ (row : Row). row.path) due → AllByRecursion (IsDueSo rows) due → AreVisible rows paths
visible_at rows due [] same all = tt
visible_at rows [] (path ∷ paths) same all = absurd cc
visible_at rows (row ∷ due) (path ∷ paths) same all =
    let first : string_bytes path ≡ row.path = cc in
    let rest : map string_bytes paths ≡ map (λ (r : Row). r.path) due = cc in
    (λ r found. ap (λ (k : Row). is_listed k.phase) (some_row r row (sym found ∙ ap (λ p. row_at p rows) first ∙ all.0.0)) ∙ all.0.1, visible_at rows due paths rest all.1)

pub due_visible : (rule : Rule) (now : ℕ) (rows : List Row) (paths : List (String Global)) → AreRising rows → map string_bytes paths ≡ map (λ (row : Row). row.path) (due_rows rule now rows) → AreVisible rows paths
due_visible rule now rows paths rising same =
    visible_at rows (due_rows rule now rows) paths same (first_so rows most_rows (filter (λ (row : Row). is_listed row.phase && is_due_at rule now rows (file_at row.path)) rows) (due_so rule now rows rows rows (all_found rows rising)))

-- ---- the documents of directories in which no row fades
pub document-apart : (d : Directory) (repo : List ℕ) (now : ℕ) (paths : List (String Global)) (rows : List Row) → AreApartFrom d paths → document d (rows_after_all (fade_at_paths repo now paths) rows) ≡ document d rows
document-apart d repo now [] rows apart = refl
document-apart d repo now (path ∷ paths) rows apart =
    document-apart d repo now paths (change_where (is_row (string_bytes path)) (fade now) rows) apart.1 ∙ document_elsewhere d (string_bytes path) (fade now) rows (λ row. refl) apart.0
