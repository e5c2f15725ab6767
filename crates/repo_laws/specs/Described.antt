-- What a document says of the visible rows of its directory (Maven repository metadata 1.1.0).
use Rattle.std.specs.Prelude.{◌≡◌, ◌↔◌, ℕ, false, List, [], Option, Some, None, unwrap_or, IsTrue}
use Rattle.std.specs.BTreeMap.{is_at}
use Rattle.std.specs.FinMap.Entries.{is_sorted}
use Rattle.std.specs.List.{AllByRecursion}
use Rattle.std.specs.Map.{lookup}
use Rattle.std.specs.Ordering.{is_gt}
use Rattle.mvn_coords.specs.Calendar.{civil_of}
use Rattle.mvn_coords.specs.Civil.{CivilTime}
use Rattle.mvn_coords.specs.FileName.{BuildOf, base_of}
use Rattle.mvn_coords.specs.Layout.{Coordinates, Directory}
use Rattle.mvn_version.specs.Order.{list_cmp}
use Rattle.mvn_metadata.specs.declared.listing.Listing.{Listing}
use Rattle.mvn_metadata.specs.declared.listing.Listing.TheVariants.{Artifact, Snapshot}
use Rattle.mvn_metadata.specs.declared.pair.Pair.{Pair}
use Rattle.mvn_metadata.specs.declared.pair.SnapshotBuild.{SnapshotBuild}
use Rattle.mvn_metadata.specs.Form.{is_rising}
use Rattle.mvn_metadata.specs.Merge.{Entry}
use Rattle.mvn_metadata.specs.Order.{build_cmp, pair_cmp, time_cmp}
use Rattle.repo_model.specs.Data.{Row}
use Rattle.repo_model.specs.Paths.{file_at}
use Rattle.repo_laws.specs.Laws.{AnyByRecursion}

abbrev pub IsAmong : {X : Type 0} → X → List X → Type 0
IsAmong x xs = AnyByRecursion (λ y. y ≡ x) xs

abbrev pub IsVersion : Option (List ℕ) → List ℕ → Type 0
IsVersion None directory = Unit {0}
IsVersion (Some version) directory = version ≡ directory

-- a file of a directory: of its group and artifact, and of its version directory where it is one
abbrev pub IsFileOf : Directory → Option Coordinates → Type 0
IsFileOf d found = (c : Coordinates) × (found ≡ Some c) × (c.group ≡ d.group) × (c.artifact ≡ d.artifact) × IsVersion d.version c.directory

-- a row's file stands in a version directory
abbrev pub IsIn : List ℕ → Row → Type 0
IsIn version row = (c : Coordinates) × (file_at row.path ≡ Some c) × (c.directory ≡ version)

-- in order and each once, exactly the version directories with a visible row
abbrev pub ListsVersions : List Row → List (List ℕ) → Type 0
ListsVersions visible versions =
    IsTrue (is_rising list_cmp versions) × ((version : List ℕ) → IsAmong version versions ↔ AnyByRecursion (IsIn version) visible)

-- the latest time at which one of them was accepted
abbrev pub IsLatest : List Row → Option CivilTime → Type 0
IsLatest visible updated =
    (time : CivilTime) × (updated ≡ Some time) × AnyByRecursion (λ (row : Row). civil_of row.accepted ≡ time) visible
    × AllByRecursion (λ (row : Row). is_gt (time_cmp (civil_of row.accepted) time) ≡ false) visible

-- a row's file is one of a build
abbrev pub IsOfBuild : BuildOf → Row → Type 0
IsOfBuild build row = (c : Coordinates) × (file_at row.path ≡ Some c) × (c.build ≡ Some build)

-- the newest of their builds; none where no visible file is one of a build
abbrev pub IsNewest : List Row → Option BuildOf → Type 0
IsNewest visible newest =
    ((build : BuildOf) → newest ≡ Some build → AnyByRecursion (IsOfBuild build) visible)
    × ((build : BuildOf) → AnyByRecursion (IsOfBuild build) visible → (kept : BuildOf) × (newest ≡ Some kept) × (is_gt (build_cmp build kept) ≡ false))

-- what a row's file of a build adds: classifier and extension, and the build
abbrev pub Adds : Pair → SnapshotBuild → Row → Type 0
Adds pair snapshot row =
    (c : Coordinates) × (build : BuildOf) × (file_at row.path ≡ Some c) × (c.build ≡ Some build)
    × (record { classifier = c.classifier; extension = c.extension } ≡ pair) × (record { base = unwrap_or (base_of c.directory) []; build = build } ≡ snapshot)

-- in order, each classifier and extension of visible files once, with the newest build of these files
abbrev pub ListsBuilds : List Row → List Entry → Type 0
ListsBuilds visible entries =
    IsTrue (is_sorted pair_cmp entries) × AllByRecursion (λ (e : Entry). AnyByRecursion (Adds e.0 e.1) visible) entries
    × ((pair : Pair) (snapshot : SnapshotBuild) → AnyByRecursion (Adds pair snapshot) visible →
    (kept : SnapshotBuild) × (lookup (is_at (pair_cmp pair)) entries ≡ Some kept) × (is_gt (build_cmp snapshot.build kept.build) ≡ false))

-- what is listed of an artifact, and of a snapshot directory
abbrev pub Describes : List Row → Option (List ℕ) → Listing → Type 0
Describes visible None (Artifact versions updated) = ListsVersions visible versions × IsLatest visible updated
Describes visible (Some directory) (Snapshot base newest entries) = (base ≡ directory) × IsNewest visible newest × ListsBuilds visible entries
Describes visible version listing = ⊥
