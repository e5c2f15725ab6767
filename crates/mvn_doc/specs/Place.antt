-- Where an element stands in a metadata document (Maven repository metadata 1.1.0, "metadata" to "snapshotVersion"): what is known of its way from the root.
use Rattle.std.specs.Prelude.{ℕ, ◌-◌, Bool, ◌==◌, List, [], ◌∷◌, ◌++◌, length, take, slice_get, unwrap_or, bytes_eq, codes, if◌then◌else◌}
use Rattle.xml_subset.specs.Element.{Element}
use Rattle.mvn_doc.specs.declared.place.Place.{Place}
use Rattle.mvn_doc.specs.declared.place.Place.TheVariants.{Outside, Metadata, GroupId, ArtifactId, BaseVersion, Versioning, LastUpdated, Versions, Version, Snapshot, Timestamp, BuildNumber, SnapshotVersions, SnapshotVersion, Classifier, Extension, Value, Other}

-- the places inside `metadata`, `versioning`, `snapshot` and `snapshotVersion`
abbrev pub in_metadata : List ℕ → Place
in_metadata name =
    if bytes_eq name (codes "groupId") then GroupId
    else (if bytes_eq name (codes "artifactId") then ArtifactId
    else (if bytes_eq name (codes "version") then BaseVersion
    else (if bytes_eq name (codes "versioning") then Versioning else Other)))

abbrev pub in_versioning : List ℕ → Place
in_versioning name =
    if bytes_eq name (codes "lastUpdated") then LastUpdated
    else (if bytes_eq name (codes "versions") then Versions
    else (if bytes_eq name (codes "snapshot") then Snapshot
    else (if bytes_eq name (codes "snapshotVersions") then SnapshotVersions else Other)))

abbrev pub in_snapshot : List ℕ → Place
in_snapshot name =
    if bytes_eq name (codes "timestamp") then Timestamp
    else (if bytes_eq name (codes "buildNumber") then BuildNumber else Other)

abbrev pub in_snapshot_version : List ℕ → Place
in_snapshot_version name =
    if bytes_eq name (codes "classifier") then Classifier
    else (if bytes_eq name (codes "extension") then Extension
    else (if bytes_eq name (codes "value") then Value else Other))

-- the place of an element with this name inside an element at that place
abbrev pub below : Place → List ℕ → Place
below Outside name = Metadata
below Metadata name = in_metadata name
below Versioning name = in_versioning name
below Versions name = if bytes_eq name (codes "version") then Version else Other
below Snapshot name = in_snapshot name
below SnapshotVersions name = if bytes_eq name (codes "snapshotVersion") then SnapshotVersion else Other
below SnapshotVersion name = in_snapshot_version name
below GroupId name = Other
below ArtifactId name = Other
below BaseVersion name = Other
below LastUpdated name = Other
below Version name = Other
below Timestamp name = Other
below BuildNumber name = Other
below Classifier name = Other
below Extension name = Other
below Value name = Other
below Other name = Other

abbrev pub place_number : Place → ℕ
place_number Outside = 0
place_number Metadata = 1
place_number GroupId = 2
place_number ArtifactId = 3
place_number BaseVersion = 4
place_number Versioning = 5
place_number LastUpdated = 6
place_number Versions = 7
place_number Version = 8
place_number Snapshot = 9
place_number Timestamp = 10
place_number BuildNumber = 11
place_number SnapshotVersions = 12
place_number SnapshotVersion = 13
place_number Classifier = 14
place_number Extension = 15
place_number Value = 16
place_number Other = 17

abbrev pub is_at : Place → Place → Bool
is_at p q = place_number p == place_number q

-- an element's place and its own text
pub record Placed : Type 0 where
  pub place : Place
  pub text : List ℕ

-- the innermost of the elements around, the outermost first
abbrev pub innermost : List Place → Place
innermost around = unwrap_or (slice_get around (length around - 1)) Outside

-- elements in document order with their places, where these are open
abbrev pub placed : List Place → List Element → List Placed
placed opened [] = []
placed opened (e ∷ es) =
    let around = take (e.depth - 1) opened in
    let place = below (innermost around) e.name in
    record { place = place; text = e.text } ∷ placed (around ++ place ∷ []) es
