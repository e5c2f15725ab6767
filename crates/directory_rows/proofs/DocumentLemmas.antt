-- The document of a directory, row after row.
use Rattle.std.proofs.Common.{◌≡◌, ℕ, Bool, true, false, cond, ◌&&◌, List, [], ◌∷◌, fold, Option, Some, None, unwrap_or, refl, sym, ap, ◌∙◌, subst, ◌++◌}
use Rattle.std.specs.List.{AllByRecursion}
use Rattle.std.specs.Ordering.{is_le}
use Rattle.std.proofs.lemmas.Bool.{and_right, false_from_ne_true, both_ways}
use Rattle.mvn_coords.proofs.Levels.{Whole, levels_below}
use Rattle.mvn_coords.specs.Layout.{Directory}
use Rattle.mvn_coords.specs.Segment.{levels}
use Rattle.mvn_metadata.specs.Document.{Document, settled, blank}
use Rattle.repo_model.specs.Data as plain
use Rattle.repo_model.specs.Document.{is_listed, listed_in, with_row, described, document}
use Rattle.repo_model.specs.Paths.{file_at, stands_in}
use Rattle.ordered_rows.specs.Homes.{home_above, home_of, AreElsewhere}
use Rattle.ordered_rows.proofs.HomeLemmas.{above-levels}
use Rattle.directory_rows.specs.Documents.{added, with_listed, rest_from}
use Rattle.directory_rows.specs.Walks.{IsWalkOf}
use Rattle.directory_rows.proofs.TextLemmas.{cmp, UpTo, UpTo-front}
use Rattle.directory_rows.proofs.DirectoryForms.{stands}
use Rattle.directory_rows.proofs.Steps.{in_front}
use Rattle.directory_rows.proofs.RowLemmas.{AreFrom}

abbrev counts : Directory → plain.Row → Bool
counts d row = is_listed row.phase && stands_in d (file_at row.path)

-- from a document on
added_some : (d : Directory) (doc : Document) (rows : List plain.Row) → fold (added d) (Some doc) rows ≡ Some (record doc { listing = fold with_row doc.listing (listed_in d rows) })
added_some d doc [] = refl
added_some d doc (row ∷ rows) =
    elim (counts d row) as (λ b. fold (added d) (cond b (Some (with_listed doc row)) (Some doc)) rows ≡ Some (record doc { listing = fold with_row doc.listing (cond b (row ∷ listed_in d rows) (listed_in d rows)) })) [
      | true ↦ added_some d (with_listed doc row) rows
      | false ↦ added_some d doc rows
    ]

-- from nothing on
pub added_all : (d : Directory) (rows : List plain.Row) → fold (added d) None rows ≡ document d rows
added_all d [] = refl
added_all d (row ∷ rows) =
    elim (counts d row) as (λ b. fold (added d) (cond b (Some (with_listed (settled blank d) row)) None) rows ≡ described (settled blank d) (cond b (row ∷ listed_in d rows) (listed_in d rows))) [
      | true ↦ added_some d (with_listed (settled blank d) row) rows
      | false ↦ added_all d rows
    ]

-- a row that does not stand in the directory changes nothing
pub unadded : (d : Directory) (doc : Option Document) (row : plain.Row) → stands_in d (file_at row.path) ≡ false → added d doc row ≡ doc
unadded d doc row h = ap (λ b. cond b (Some (with_listed (unwrap_or doc (settled blank d)) row)) doc) (and_right (is_listed row.phase) (stands_in d (file_at row.path)) h)

-- rows that do not stand in the directory may be left out
pub added_rest : (d : Directory) (text : List ℕ) (doc : Option Document) (rows : List plain.Row) → AllByRecursion (λ (row : plain.Row). stands_in d (file_at row.path) ≡ true → UpTo text row.path) rows
    → fold (added d) doc rows ≡ fold (added d) doc (rest_from text rows)
added_rest d text doc [] h = refl
added_rest d text doc (row ∷ rows) h =
    elim (is_le (cmp text row.path)) as (λ b. is_le (cmp text row.path) ≡ b → fold (added d) (added d doc row) rows ≡ fold (added d) doc (cond b (row ∷ rest_from text rows) (rest_from text rows))) [
      | true ↦ λ here. added_rest d text (added d doc row) rows h.1
      | false ↦ λ there.
          ap (λ o. fold (added d) o rows) (unadded d doc row (false_from_ne_true (stands_in d (file_at row.path)) (λ s. both_ways (is_le (cmp text row.path)) there (h.0 s))))
          ∙ added_rest d text doc rows h.1
    ] refl

-- none of the rows stands in the directory
pub added_none : (d : Directory) (doc : Option Document) (rows : List plain.Row) → AllByRecursion (λ (row : plain.Row). stands_in d (file_at row.path) ≡ true → ⊥) rows → fold (added d) doc rows ≡ doc
added_none d doc [] h = refl
added_none d doc (row ∷ rows) h =
    ap (λ o. fold (added d) o rows) (unadded d doc row (false_from_ne_true (stands_in d (file_at row.path)) h.0)) ∙ added_none d doc rows h.1

-- what holds of each text from a path on
pub each_from : (path : List ℕ) (P : List ℕ → Type 0) (rows : List plain.Row) → ((q : List ℕ) → UpTo path q → P q) → AreFrom path rows → AllByRecursion (λ (row : plain.Row). P row.path) rows
each_from path P [] f h = tt
each_from path P (row ∷ rows) f h = (f row.path h.0, each_from path P rows f h.1)

each : (P : List ℕ → Type 0) (rows : List plain.Row) → ((q : List ℕ) → P q) → AllByRecursion (λ (row : plain.Row). P row.path) rows
each P [] f = tt
each P (row ∷ rows) f = (f row.path, each P rows f)

-- a walk begins at the directory's path
pub walk_begins : (d : Directory) (base word : List ℕ) (level : Bool) (rows : List plain.Row) → IsWalkOf d base word level → fold (added d) None (rest_from base rows) ≡ document d rows
walk_begins d base word level rows walk =
    sym (added_rest d base None rows (each (λ q. stands_in d (file_at q) ≡ true → UpTo base q) rows
    (λ q h. let f = in_front d base word q level walk h in subst (UpTo base) (sym f.1) (UpTo-front base f.0))))
    ∙ added_all d rows

-- ---- a directory whose artifact has no rows
two-below : (home version name : List ℕ) → Whole version → Whole name → levels ((home ++ 47 ∷ version) ++ 47 ∷ name) ≡ name ∷ version ∷ levels home
two-below home version name whole_version whole_name = levels_below (home ++ 47 ∷ version) name whole_name ∙ ap (λ ls. name ∷ ls) (levels_below home version whole_version)

-- the directory of a row of a document's directory
stands-home : (d : Directory) (q : List ℕ) → stands_in d (file_at q) ≡ true → home_of q ≡ Some (d.group ++ 47 ∷ d.artifact)
stands-home d q h =
    let s = stands d q h in
    ap home_of s.path ∙ ap home_above (two-below (d.group ++ 47 ∷ d.artifact) s.version (d.artifact ++ 45 ∷ s.rest) s.whole_version s.whole_name)
    ∙ above-levels (d.artifact ++ 45 ∷ s.rest) s.version (d.group ++ 47 ∷ d.artifact)

none-stands : (d : Directory) (rows : List plain.Row) → AreElsewhere (d.group ++ 47 ∷ d.artifact) rows → AllByRecursion (λ (row : plain.Row). stands_in d (file_at row.path) ≡ true → ⊥) rows
none-stands d [] all = tt
none-stands d (row ∷ rows) all = (λ h. all.0 (stands-home d row.path h), none-stands d rows all.1)

pub no_document : (d : Directory) (rows : List plain.Row) → AreElsewhere (d.group ++ 47 ∷ d.artifact) rows → None ≡ document d rows
no_document d rows all = sym (added_none d None rows (none-stands d rows all)) ∙ added_all d rows
