-- What the written fields of a document give a reader: paths of files, by the versions of an artifact and by the snapshot versions of a directory (Maven repository metadata 1.1.0, Maven 2 repository layout).
use Rattle.std.specs.Prelude.{◌≡◌, ℕ, false, List, ◌∷◌, ◌++◌, None}
use Rattle.std.specs.Ordering.{is_gt}
use Rattle.mvn_coords.specs.FileName.{base_of}
use Rattle.mvn_coords.specs.Layout.{Directory, tail_text, text_of_directory}
use Rattle.mvn_metadata.specs.declared.pair.Pair.{Pair}
use Rattle.mvn_metadata.specs.declared.pair.SnapshotBuild.{SnapshotBuild}
use Rattle.mvn_metadata.specs.Merge.{Entry}
use Rattle.mvn_metadata.specs.Order.{build_cmp}
use Rattle.mvn_metadata.specs.Written.{build_version}
use Rattle.repo_model.specs.Data.{Row}
use Rattle.repo_laws.specs.Laws.{AnyByRecursion}
use Rattle.repo_laws.specs.Described.{IsAmong, Adds}

-- a file's name by its artifact and the version, classifier and extension that are written of it
abbrev pub file_name : List ℕ → List ℕ → List ℕ → List ℕ → List ℕ
file_name artifact version classifier extension = artifact ++ 45 ∷ version ++ tail_text classifier extension

-- the path that a `snapshotVersion` gives: beside its document, by the classifier, extension and value that it is written with
abbrev pub path_given : Directory → Entry → List ℕ
path_given d e = text_of_directory d ++ 47 ∷ file_name d.artifact (build_version e) e.0.classifier e.0.extension

-- one of them gives the path
abbrev pub IsGiven : Directory → List Entry → List ℕ → Type 0
IsGiven d entries path = AnyByRecursion (λ e. path ≡ path_given d e) entries

-- the path is that of a file of a version: in the version's directory, below that of the document
abbrev pub IsOfVersion : Directory → List ℕ → List ℕ → Type 0
IsOfVersion d version path =
    (classifier : List ℕ) × (extension : List ℕ)
    × (path ≡ (text_of_directory d ++ 47 ∷ version) ++ 47 ∷ file_name d.artifact version classifier extension)

-- of one of these versions that is no snapshot
abbrev pub IsOfRelease : Directory → List (List ℕ) → List ℕ → Type 0
IsOfRelease d versions path =
    (version : List ℕ) × IsAmong version versions × (base_of version ≡ None) × IsOfVersion d version path

-- a file of a build, and no visible file with its classifier and extension has a newer one
abbrev pub IsNewestOfPair : List Row → Row → Type 0
IsNewestOfPair visible row =
    (pair : Pair) × (snapshot : SnapshotBuild) × Adds pair snapshot row
    × ((other : SnapshotBuild) → AnyByRecursion (Adds pair other) visible → is_gt (build_cmp other.build snapshot.build) ≡ false)
