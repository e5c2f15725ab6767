-- The metadata document of a directory (Maven repository metadata 1.1.0): its coordinates and what it lists; how documents of one directory are merged, and how a document is made that of a directory.
use Rattle.std.specs.Prelude.{ℕ, Bool, true, false, List, [], ◌∷◌, ◌++◌, fold, filter, map, Option, Some, None, if◌then◌else◌, ◌==◌, nat_lt, length, bytes_eq, nat_eq, codes}
use Rattle.std.specs.BTreeSet.{insert_key}
use Rattle.std.specs.List.{ends_with}
use Rattle.std.specs.Ordering.{is_lt}
use Rattle.mvn_version.specs.Order.{list_cmp}
use Rattle.std.specs.declared.cmp.Ordering.{Ordering}
use Rattle.mvn_coords.specs.Civil.{CivilTime}
use Rattle.mvn_coords.specs.FileName.{BuildOf}
use Rattle.mvn_coords.specs.Layout.{Directory}
use Rattle.mvn_metadata.specs.declared.listing.Listing.{Listing}
use Rattle.mvn_metadata.specs.declared.pair.SnapshotBuild.{SnapshotBuild}
use Rattle.mvn_metadata.specs.declared.listing.Listing.TheVariants.{Artifact, Snapshot}
use Rattle.mvn_metadata.specs.Merge.{Entry, with_versions, with_entry, with_entries}
use Rattle.mvn_metadata.specs.Order.{build_cmp, time_cmp}

-- the group is written with dots between its segments
pub record Document : Type 0 where
  pub group : Option (List ℕ)
  pub artifact : Option (List ℕ)
  pub listing : Listing

-- the greater of two, where there are any
abbrev pub greatest : {A : Type 0} → (A → A → Ordering) → Option A → Option A → Option A
greatest cmp None b = b
greatest cmp (Some a) None = Some a
greatest cmp (Some a) (Some b) = Some (if is_lt (cmp a b) then b else a)

abbrev pub latest_time : Option CivilTime → Option CivilTime → Option CivilTime
latest_time t u = greatest time_cmp t u

abbrev pub newest_build : Option BuildOf → Option BuildOf → Option BuildOf
newest_build b c = greatest build_cmp b c

abbrev pub newest_snapshot_build : Option SnapshotBuild → Option SnapshotBuild → Option SnapshotBuild
newest_snapshot_build u v = greatest (λ u v. build_cmp u.build v.build) u v

-- what one document lists with what another one does; one of the other kind adds nothing
abbrev pub joined : Listing → Listing → Listing
joined (Artifact versions updated) (Artifact others later) =
    Artifact (with_versions versions others) (latest_time updated later)
joined (Artifact versions updated) (Snapshot _ _ _) = Artifact versions updated
joined (Snapshot base newest entries) (Snapshot _ newer others) =
    Snapshot base (newest_build newest newer) (with_entries entries others)
joined (Snapshot base newest entries) (Artifact _ _) = Snapshot base newest entries

-- the versions of an artifact are listed, and not the files of a snapshot directory
abbrev pub lists_versions : Listing → Bool
lists_versions (Artifact _ _) = true
lists_versions (Snapshot _ _ _) = false

-- nothing of the same kind
abbrev pub nothing : Listing → Listing
nothing (Artifact _ _) = Artifact [] None
nothing (Snapshot base _ _) = Snapshot base None []

-- the last version, and the last that is no snapshot
abbrev pub latest : List (List ℕ) → Option (List ℕ)
latest versions = fold (λ _ v. Some v) None versions

abbrev pub is_snapshot : List ℕ → Bool
is_snapshot version = ends_with nat_eq version (codes "-SNAPSHOT")

abbrev pub release : List (List ℕ) → Option (List ℕ)
release versions = fold (λ last v. if is_snapshot v then last else Some v) None versions

-- one more version, one more moment of change, and one more build, which counts where it is the newest of its pair
abbrev pub with_version : Listing → List ℕ → Listing
with_version (Artifact versions updated) version = Artifact (insert_key list_cmp versions version) updated
with_version (Snapshot base newest entries) version = Snapshot base newest entries

abbrev pub with_update : Listing → CivilTime → Listing
with_update (Artifact versions updated) moment = Artifact versions (latest_time updated (Some moment))
with_update (Snapshot base newest entries) moment = Snapshot base newest entries

abbrev pub with_build : Listing → Entry → Listing
with_build (Artifact versions updated) e = Artifact versions updated
with_build (Snapshot base newest entries) e =
    Snapshot base (newest_build newest (Some e.1.build)) (with_entry entries e)

abbrev pub merged : Document → Document → Document
merged d e = record d { listing = joined d.listing e.listing }

-- documents of one directory as one: the coordinates of the first, all versions, per pair the newest build, and the
-- greatest `lastUpdated` and newest build
abbrev pub merge : List Document → Option Document
merge [] = None
merge (d ∷ ds) = Some (fold merged (record d { listing = nothing d.listing }) (d ∷ ds))

-- a group's segments with `.` between them; none where there are no segments
abbrev pub dotted : List ℕ → Option (List ℕ)
dotted group = if nat_lt 0 (length group) then Some (map (λ b. if b == 47 then 46 else b) group) else None

-- the entry is of a file in this version directory
abbrev pub is_of : List ℕ → Entry → Bool
is_of directory e = bytes_eq (e.1.base ++ codes "-SNAPSHOT") directory

-- what is listed of an artifact, or of a snapshot directory
abbrev pub of_kind : Option (List ℕ) → Listing → Listing
of_kind None (Artifact versions updated) = Artifact versions updated
of_kind None (Snapshot _ _ _) = Artifact [] None
of_kind (Some directory) (Artifact _ _) = Snapshot directory None []
of_kind (Some directory) (Snapshot _ newest entries) = Snapshot directory newest (filter (is_of directory) entries)

-- a document as that of a directory: the coordinates are the directory's
abbrev pub settled : Document → Directory → Document
settled d directory = record {
  group = dotted directory.group;
  artifact = Some directory.artifact;
  listing = of_kind directory.version d.listing;
}

-- a document of which nothing is known
abbrev pub blank : Document
blank = record { group = None; artifact = None; listing = Artifact [] None }
