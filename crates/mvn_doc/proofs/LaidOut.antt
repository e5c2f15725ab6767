-- A document laid out as lines: elements with a value, and elements with lines inside.
use Rattle.std.specs.Prelude.{ℕ, List, [], ◌∷◌, ◌++◌, Option, Some, None, codes}
use Rattle.std.specs.Option.{option_map}
use Rattle.mvn_coords.specs.Civil.{CivilTime, text_of_time}
use Rattle.mvn_coords.specs.FileName.{BuildOf}
use Rattle.mvn_metadata.specs.declared.listing.Listing.{Listing}
use Rattle.mvn_metadata.specs.declared.listing.Listing.TheVariants.{Artifact, Snapshot}
use Rattle.mvn_doc.specs.declared.place.Place.{Place}
use Rattle.mvn_doc.specs.declared.place.Place.TheVariants.{Metadata}
use Rattle.mvn_metadata.specs.Document.{Document, latest, release}
use Rattle.mvn_metadata.specs.Merge.{Entry}
use Rattle.mvn_doc.specs.Place.{Placed, below}
use Rattle.mvn_coords.specs.Layout.{text_of_number}
use Rattle.mvn_metadata.specs.Written.{block, build_version, element, moment_text}

pub data Lines : Type 0 where
  NoLines : Lines
  Line : (name value : List ℕ) → Lines → Lines
  Block : (name : List ℕ) → Lines → Lines → Lines

-- the written lines after a margin
abbrev pub lines_text : List ℕ → Lines → List ℕ
lines_text margin NoLines = []
lines_text margin (Line name value more) = element margin name value ++ lines_text margin more
lines_text margin (Block name inner more) = block margin name (lines_text (32 ∷ 32 ∷ margin) inner) ++ lines_text margin more

abbrev pub line_if : List ℕ → Option (List ℕ) → Lines → Lines
line_if name None more = more
line_if name (Some value) more = Line name value more

abbrev pub each_version : List (List ℕ) → Lines
each_version [] = NoLines
each_version (v ∷ vs) = Line (codes "version") v (each_version vs)

abbrev pub versions_block : List (List ℕ) → Lines → Lines
versions_block [] more = more
versions_block (v ∷ vs) more = Block (codes "versions") (each_version (v ∷ vs)) more

abbrev pub classifier_if : List ℕ → Lines → Lines
classifier_if [] more = more
classifier_if (b ∷ bs) more = Line (codes "classifier") (b ∷ bs) more

abbrev pub entry_inside : Entry → Lines
entry_inside e =
    classifier_if e.0.classifier (Line (codes "extension") e.0.extension
    (Line (codes "value") (build_version e) (Line (codes "updated") (moment_text e.1.build.stamp) NoLines)))

abbrev pub each_entry : List Entry → Lines
each_entry [] = NoLines
each_entry (e ∷ es) = Block (codes "snapshotVersion") (entry_inside e) (each_entry es)

abbrev pub entries_block : List Entry → Lines → Lines
entries_block [] more = more
entries_block (e ∷ es) more = Block (codes "snapshotVersions") (each_entry (e ∷ es)) more

abbrev pub newest_block : Option BuildOf → Lines → Lines
newest_block None more = more
newest_block (Some b) more =
    Block (codes "snapshot") (Line (codes "timestamp") (text_of_time b.stamp) (Line (codes "buildNumber") (text_of_number b.number) NoLines)) more

abbrev pub artifact_inside : List (List ℕ) → Option CivilTime → Lines
artifact_inside versions updated =
    line_if (codes "latest") (latest versions) (line_if (codes "release") (release versions)
    (versions_block versions (line_if (codes "lastUpdated") (option_map moment_text updated) NoLines)))

abbrev pub snapshot_inside : Option BuildOf → List Entry → Lines
snapshot_inside newest entries =
    newest_block newest (line_if (codes "lastUpdated") (option_map moment_text (option_map (λ b. b.stamp) newest))
    (entries_block entries NoLines))

abbrev pub listing_inside : Listing → Lines
listing_inside (Artifact versions updated) = Block (codes "versioning") (artifact_inside versions updated) NoLines
listing_inside (Snapshot base newest entries) =
    Line (codes "version") base (Block (codes "versioning") (snapshot_inside newest entries) NoLines)

-- the lines inside the root of a document
abbrev pub lines_of : Document → Lines
lines_of d = line_if (codes "groupId") d.group (line_if (codes "artifactId") d.artifact (listing_inside d.listing))

-- the elements that the lines inside an element at a place are read as
abbrev pub placed_lines : Place → Lines → List Placed
placed_lines at NoLines = []
placed_lines at (Line name value more) = record { place = below at name; text = value } ∷ placed_lines at more
placed_lines at (Block name inner more) =
    record { place = below at name; text = [] } ∷ (placed_lines (below at name) inner ++ placed_lines at more)

-- the elements that a written document is read as
abbrev pub placed_of : Document → List Placed
placed_of d = record { place = Metadata; text = [] } ∷ placed_lines Metadata (lines_of d)
