-- A document says what the visible rows of its directory are.
use Rattle.std.proofs.Common.{◌≡◌, ◌⊎◌, inl, inr, ℕ, Bool, true, false, cond, ◌&&◌, List, [], ◌∷◌, Option, Some, None, refl, sym, ◌∙◌, ap, subst}
use Rattle.std.specs.Prelude.{◌↔◌, fold, filter, bytes_eq}
use Rattle.std.specs.List.{AllByRecursion}
use Rattle.std.proofs.lemmas.Bool.{false≢true, and_parts, and_from}
use Rattle.std.proofs.lemmas.Option.{none-some}
use Rattle.std.proofs.lemmas.Slice.Eq.{bytes_eq-Decides}
use Rattle.mvn_coords.specs.FileName.{BuildOf}
use Rattle.mvn_coords.specs.Layout.{Coordinates, Directory}
use Rattle.mvn_metadata.specs.declared.listing.Listing.TheVariants.{Artifact}
use Rattle.mvn_metadata.specs.Document.{Document, dotted, of_kind, settled, blank}
use Rattle.repo_model.specs.Data.{Row, Phase, listed, fading}
use Rattle.repo_model.specs.Paths.{file_at, same_version, stands_in}
use Rattle.repo_model.specs.Document.{is_listed, listed_in, described, document, with_row}
use Rattle.repo_laws.specs.Laws.{AnyByRecursion}
use Rattle.repo_laws.specs.Described.{IsAmong, IsVersion, IsFileOf, IsIn, IsOfBuild, IsNewest, Describes, ListsVersions}
use Rattle.repo_laws.proofs.Lists.{filter-has, all-then}
use Rattle.naming_laws.proofs.Describing.{HasPath, versions_of, newest_of, artifact-rows, rising-versions, versions-from, versions-have, latest-rows, snapshot-rows, newest-reaches, newest-from}
use Rattle.naming_laws.proofs.DescribingBuilds.{lists-builds}

-- ---- the rows of a directory
module _ {X : Type 0} (q : X → Bool) where
  pub among-filter : (x : X) (xs : List X) → IsAmong x (filter q xs) → IsAmong x xs × (q x ≡ true)
  among-filter x [] none = absurd none
  among-filter x (y ∷ xs) among =
      elim (q y) as (λ b. q y ≡ b → IsAmong x (cond b (y ∷ filter q xs) (filter q xs)) → IsAmong x (y ∷ xs) × (q x ≡ true)) [
        | true ↦ λ is any. here (among-filter x xs) is any
        | false ↦ λ is any. let (there, passes) = among-filter x xs any in (inr there, passes)
      ] refl among where
        here : (IsAmong x (filter q xs) → IsAmong x xs × (q x ≡ true)) → q y ≡ true → IsAmong x (y ∷ filter q xs) → IsAmong x (y ∷ xs) × (q x ≡ true)
        here rest is (inl same) = (inl same, ap q (sym same) ∙ is)
        here rest is (inr later) = let (there, passes) = rest later in (inr there, passes)

  pub filter-among : (x : X) (xs : List X) → IsAmong x xs → q x ≡ true → IsAmong x (filter q xs)
  filter-among x [] none passes = absurd none
  filter-among x (y ∷ xs) among passes =
      elim (q y) as (λ b. q y ≡ b → IsAmong x (cond b (y ∷ filter q xs) (filter q xs))) [
        | true ↦ λ is. kept (λ later. filter-among x xs later passes) among
        | false ↦ λ is. dropped (λ later. filter-among x xs later passes) is among
      ] refl where
        kept : (IsAmong x xs → IsAmong x (filter q xs)) → IsAmong x (y ∷ xs) → IsAmong x (y ∷ filter q xs)
        kept rest (inl same) = inl same
        kept rest (inr later) = inr (rest later)

        dropped : (IsAmong x xs → IsAmong x (filter q xs)) → q y ≡ false → IsAmong x (y ∷ xs) → IsAmong x (filter q xs)
        dropped rest is (inl same) = absurd (false≢true (sym is ∙ ap q same ∙ passes))
        dropped rest is (inr later) = rest later

version-so : (version : Option (List ℕ)) (directory : List ℕ) → same_version version directory ≡ true → IsVersion version directory
version-so None directory is = tt
version-so (Some v) directory is = (bytes_eq-Decides v directory).0 is

so-version : (version : Option (List ℕ)) (directory : List ℕ) → IsVersion version directory → same_version version directory ≡ true
so-version None directory is = refl
so-version (Some v) directory is = (bytes_eq-Decides v directory).1 is

stands-so : (d : Directory) (found : Option Coordinates) → stands_in d found ≡ true → IsFileOf d found
stands-so d None is = absurd (false≢true is)
stands-so d (Some c) is =
    let (group, rest) = and_parts (bytes_eq c.group d.group) (bytes_eq c.artifact d.artifact && same_version d.version c.directory) is in
    let (artifact, version) = and_parts (bytes_eq c.artifact d.artifact) (same_version d.version c.directory) rest in
    (c, refl, (bytes_eq-Decides c.group d.group).0 group, (bytes_eq-Decides c.artifact d.artifact).0 artifact, version-so d.version c.directory version)

so-stands : (d : Directory) (found : Option Coordinates) → IsFileOf d found → stands_in d found ≡ true
so-stands d found (c, is, group, artifact, version) =
    ap (stands_in d) is
    ∙ and_from (bytes_eq c.group d.group) (bytes_eq c.artifact d.artifact && same_version d.version c.directory) ((bytes_eq-Decides c.group d.group).1 group)
    (and_from (bytes_eq c.artifact d.artifact) (same_version d.version c.directory) ((bytes_eq-Decides c.artifact d.artifact).1 artifact) (so-version d.version c.directory version))

listed-so : (phase : Phase) → is_listed phase ≡ true → phase ≡ listed
listed-so listed is = refl
listed-so (fading since) is = absurd (false≢true is)

abbrev is_seen : Directory → Row → Bool
is_seen d row = is_listed row.phase && stands_in d (file_at row.path)

pub row-visible : (d : Directory) (rows : List Row) (row : Row) → IsAmong row (listed_in d rows) ↔ (IsAmong row rows × (row.phase ≡ listed) × IsFileOf d (file_at row.path))
row-visible d rows row = (
  λ among.
      let (there, seen) = among-filter (is_seen d) row rows among in
      let (visible, stands) = and_parts (is_listed row.phase) (stands_in d (file_at row.path)) seen in
      (there, listed-so row.phase visible, stands-so d (file_at row.path) stands),
  λ both. filter-among (is_seen d) row rows both.0
      (and_from (is_listed row.phase) (stands_in d (file_at row.path)) (ap is_listed both.1) (so-stands d (file_at row.path) both.2)),
)

all-there : (rows : List Row) → AllByRecursion (λ (row : Row). Unit {0}) rows
all-there [] = tt
all-there (row ∷ rows) = (tt, all-there rows)

visible-paths : (d : Directory) (rows : List Row) → AllByRecursion HasPath (listed_in d rows)
visible-paths d rows =
    all-then (λ (row : Row). Unit {0} × (is_seen d row ≡ true)) HasPath
    (λ row seen. let file = stands-so d (file_at row.path) (and_parts (is_listed row.phase) (stands_in d (file_at row.path)) seen.1).1 in (file.0, file.1))
    (listed_in d rows) (filter-has (λ (row : Row). Unit {0}) (is_seen d) rows (all-there rows))

-- ---- documents
lists-versions : (rows : List Row) → ListsVersions rows (versions_of [] rows)
lists-versions rows = (
  rising-versions rows [] refl,
  λ version. (λ among. from version (versions-from rows [] version among), versions-have rows [] version),
) where
  from : (version : List ℕ) → IsAmong version [] ⊎ AnyByRecursion (IsIn version) rows → AnyByRecursion (IsIn version) rows
  from version (inl none) = absurd none
  from version (inr any) = any

newest-so : (rows : List Row) → IsNewest rows (newest_of None rows)
newest-so rows = (λ build is. from build (newest-from rows None build is), λ build any. newest-reaches rows None build any) where
  from : (build : BuildOf) → (None ≡ Some build) ⊎ AnyByRecursion (IsOfBuild build) rows → AnyByRecursion (IsOfBuild build) rows
  from build (inl none) = absurd (none-some build none)
  from build (inr any) = any

describes : (version : Option (List ℕ)) (row : Row) (rows : List Row) → AllByRecursion HasPath (row ∷ rows)
    → Describes (row ∷ rows) version (fold with_row (of_kind version (Artifact [] None)) (row ∷ rows))
describes None row rows paths =
    subst (Describes (row ∷ rows) None) (sym (artifact-rows (row ∷ rows) [] None)) (lists-versions (row ∷ rows), latest-rows row rows paths)
describes (Some directory) row rows paths =
    subst (Describes (row ∷ rows) (Some directory)) (sym (snapshot-rows (row ∷ rows) directory None [])) (refl, newest-so (row ∷ rows), lists-builds (row ∷ rows))

abbrev IsOf : Directory → List Row → Document → Type 0
IsOf d visible served = (served.group ≡ dotted d.group) × (served.artifact ≡ Some d.artifact) × Describes visible d.version served.listing

described-so : (d : Directory) (visible : List Row) (served : Document) → AllByRecursion HasPath visible → described (settled blank d) visible ≡ Some served → IsOf d visible served
described-so d [] served paths is = absurd (none-some served is)
described-so d (row ∷ rows) served paths is =
    let made : Document = record (settled blank d) { listing = fold with_row (of_kind d.version (Artifact [] None)) (row ∷ rows) } in
    let both : Some made ≡ Some served = is in
    let same : made ≡ served = cc in
    subst (IsOf d (row ∷ rows)) same (refl, refl, describes d.version row rows paths)

pub document-so : (d : Directory) (rows : List Row) (served : Document) → document d rows ≡ Some served
    → (served.group ≡ dotted d.group) × (served.artifact ≡ Some d.artifact) × Describes (listed_in d rows) d.version served.listing
document-so d rows served is = described-so d (listed_in d rows) served (visible-paths d rows) is

pub document-none : (d : Directory) (rows : List Row) → (document d rows ≡ None) ↔ (listed_in d rows ≡ [])
document-none d rows = (λ is. none (listed_in d rows) is, λ is. ap (described (settled blank d)) is) where
  none : (visible : List Row) → described (settled blank d) visible ≡ None → visible ≡ []
  none [] is = refl
  none (row ∷ rest) is = absurd (none-some _ (sym is))
