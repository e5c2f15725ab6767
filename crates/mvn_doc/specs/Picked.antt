-- The document that an outline tells (Maven repository metadata 1.1.0). Where the format has an element once, its first one counts, and a value out of its form is none.
use Rattle.std.specs.Prelude.{ℕ, Bool, not, ◌&&◌, ◌==◌, List, [], ◌∷◌, ◌++◌, take, drop, map, filter, find, fold, Option, Some, None, option_and_then, unwrap_or, if◌then◌else◌, codes, take_while}
use Rattle.std.specs.Option.{option_map}
use Rattle.mvn_coords.specs.Civil.{CivilTime, time_of}
use Rattle.mvn_coords.specs.FileName.{BuildOf, number_of}
use Rattle.mvn_metadata.specs.declared.listing.Listing.{Listing}
use Rattle.mvn_metadata.specs.declared.listing.Listing.TheVariants as listing
use Rattle.mvn_metadata.specs.declared.pair.SnapshotBuild.{SnapshotBuild}
use Rattle.mvn_doc.specs.declared.place.Place.{Place}
use Rattle.mvn_doc.specs.declared.place.Place.TheVariants.{GroupId, ArtifactId, BaseVersion, LastUpdated, Version, Timestamp, BuildNumber, SnapshotVersion, Classifier, Extension, Value}
use Rattle.mvn_metadata.specs.Document.{Document, with_version, with_build}
use Rattle.mvn_coords.specs.Segment.{is_artifact, is_version_directory}
use Rattle.mvn_metadata.specs.Form.{is_group, is_base_version, is_classifier, is_extension}
use Rattle.mvn_metadata.specs.Merge.{Entry}
use Rattle.mvn_doc.specs.Place.{Placed, is_at}

abbrev pub fitting : (List ℕ → Bool) → List ℕ → Option (List ℕ)
fitting test value = if test value then Some value else None

-- the text of the first element at a place
abbrev pub first_at : Place → List Placed → Option (List ℕ)
first_at place ps = option_map (λ p. p.text) (find (λ p. is_at p.place place) ps)

abbrev pub group_in : List Placed → Option (List ℕ)
group_in ps = option_and_then (fitting is_group) (first_at GroupId ps)

abbrev pub artifact_in : List Placed → Option (List ℕ)
artifact_in ps = option_and_then (fitting is_artifact) (first_at ArtifactId ps)

abbrev pub base_in : List Placed → Option (List ℕ)
base_in ps = option_and_then (fitting is_base_version) (first_at BaseVersion ps)

-- a date and time in 14 digits
abbrev pub moment_of : List ℕ → Option CivilTime
moment_of text = time_of (take 8 text ++ 46 ∷ drop 8 text)

abbrev pub moment_in : List Placed → Option CivilTime
moment_in ps = option_and_then moment_of (first_at LastUpdated ps)

abbrev pub versions_in : List Placed → List (List ℕ)
versions_in ps = map (λ p. p.text) (filter (λ p. is_at p.place Version && is_version_directory p.text) ps)

-- the build that `snapshot` names, where both parts fit
abbrev pub build_by : Option CivilTime → Option ℕ → Option BuildOf
build_by (Some stamp) (Some number) = Some (record { stamp = stamp; number = number })
build_by (Some stamp) None = None
build_by None number = None

abbrev pub build_in : List Placed → Option BuildOf
build_in ps =
    build_by (option_and_then time_of (first_at Timestamp ps)) (option_and_then number_of (first_at BuildNumber ps))

-- what stands before the last `-`, and after it
abbrev pub cut_onto : ℕ → List ℕ → Option (List ℕ × List ℕ) → Option (List ℕ × List ℕ)
cut_onto b bs (Some cut) = Some (b ∷ cut.0, cut.1)
cut_onto b bs None = if b == 45 then Some ([], bs) else None

abbrev pub last_cut : List ℕ → Option (List ℕ × List ℕ)
last_cut [] = None
last_cut (b ∷ bs) = cut_onto b bs (last_cut bs)

-- the version of a build, X-timestamp-number: X, where X-SNAPSHOT is a version directory, and the build
abbrev pub snapshot_build_of : List ℕ → Option BuildOf → Option SnapshotBuild
snapshot_build_of base None = None
snapshot_build_of base (Some build) =
    if is_base_version (base ++ codes "-SNAPSHOT") then Some (record { base = base; build = build }) else None

abbrev pub snapshot_build_by : Option ℕ → List ℕ × List ℕ → Option SnapshotBuild
snapshot_build_by number cut = snapshot_build_of cut.0 (build_by (time_of cut.1) number)

abbrev pub snapshot_build_after : List ℕ × List ℕ → Option SnapshotBuild
snapshot_build_after cut = option_and_then (snapshot_build_by (number_of cut.1)) (last_cut cut.0)

abbrev pub build_value : List ℕ → Option SnapshotBuild
build_value text = option_and_then snapshot_build_after (last_cut text)

-- what stands after a `snapshotVersion`, up to the next one: of these, what has a place in a `snapshotVersion` stands inside this one
abbrev pub section : List Placed → List Placed
section ps = take_while (λ p. not (is_at p.place SnapshotVersion)) ps

-- an entry, where classifier, extension and value fit; without an element the classifier is empty
abbrev pub entry_by : Option (List ℕ) → Option (List ℕ) → Option SnapshotBuild → Option Entry
entry_by (Some classifier) (Some extension) (Some snapshot) =
    Some (record { classifier = classifier; extension = extension }, snapshot)
entry_by (Some classifier) (Some extension) None = None
entry_by (Some classifier) None snapshot = None
entry_by None extension snapshot = None

abbrev pub entry_in : List Placed → Option Entry
entry_in ps =
    entry_by (fitting is_classifier (unwrap_or (first_at Classifier ps) []))
    (option_and_then (fitting is_extension) (first_at Extension ps))
    (option_and_then build_value (first_at Value ps))

abbrev pub onto : Option Entry → List Entry → List Entry
onto None es = es
onto (Some e) es = e ∷ es

abbrev pub entries_in : List Placed → List Entry
entries_in [] = []
entries_in (p ∷ ps) =
    if is_at p.place SnapshotVersion then onto (entry_in (section ps)) (entries_in ps) else entries_in ps

-- what is listed: with a base version builds, and else versions
abbrev pub listing_in : Option (List ℕ) → List Placed → Listing
listing_in None ps = fold with_version (listing.Artifact [] (moment_in ps)) (versions_in ps)
listing_in (Some base) ps = fold with_build (listing.Snapshot base (build_in ps) []) (entries_in ps)

abbrev pub document_in : List Placed → Document
document_in ps = record {
  group = group_in ps;
  artifact = artifact_in ps;
  listing = listing_in (base_in ps) ps;
}
