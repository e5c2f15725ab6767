-- The one written form of a metadata document (Maven repository metadata 1.1.0; XML 1.0).
use Rattle.std.specs.Prelude.{ℕ, List, [], ◌∷◌, ◌++◌, take, drop, Option, Some, None, codes}
use Rattle.std.specs.List.{flat_map}
use Rattle.std.specs.Option.{option_map}
use Rattle.mvn_coords.specs.Civil.{CivilTime, text_of_time}
use Rattle.mvn_coords.specs.FileName.{BuildOf}
use Rattle.mvn_coords.specs.Layout.{text_of_build, text_of_number}
use Rattle.mvn_metadata.specs.declared.listing.Listing.{Listing}
use Rattle.mvn_metadata.specs.declared.listing.Listing.TheVariants.{Artifact, Snapshot}
use Rattle.mvn_metadata.specs.Document.{Document, latest, release}
use Rattle.mvn_metadata.specs.Merge.{Entry}

-- the tags of an element
abbrev pub open_tag : List ℕ → List ℕ
open_tag name = 60 ∷ name ++ 62 ∷ []

abbrev pub close_tag : List ℕ → List ℕ
close_tag name = 60 ∷ 47 ∷ name ++ 62 ∷ []

-- an element on a line of its own, after a margin
abbrev pub element : List ℕ → List ℕ → List ℕ → List ℕ
element margin name value = margin ++ open_tag name ++ value ++ close_tag name ++ 10 ∷ []

abbrev pub element_if : List ℕ → List ℕ → Option (List ℕ) → List ℕ
element_if margin name None = []
element_if margin name (Some value) = element margin name value

-- lines between the tags of an element, each tag on a line of its own
abbrev pub block : List ℕ → List ℕ → List ℕ → List ℕ
block margin name lines = (margin ++ open_tag name ++ 10 ∷ []) ++ lines ++ (margin ++ close_tag name ++ 10 ∷ [])

-- 14 digits: a timestamp without its dot
abbrev pub moment_text : CivilTime → List ℕ
moment_text t = take 8 (text_of_time t) ++ drop 9 (text_of_time t)

abbrev pub version_line : List ℕ → List ℕ
version_line version = element (codes "      ") (codes "version") version

abbrev pub version_lines : List (List ℕ) → List ℕ
version_lines [] = []
version_lines (v ∷ vs) = block (codes "    ") (codes "versions") (flat_map version_line (v ∷ vs))

abbrev pub classifier_line : List ℕ → List ℕ
classifier_line [] = []
classifier_line (b ∷ bs) = element (codes "        ") (codes "classifier") (b ∷ bs)

-- the version of a build: X-timestamp-number
abbrev pub build_version : Entry → List ℕ
build_version e = e.1.base ++ 45 ∷ text_of_build e.1.build

abbrev pub entry_lines : Entry → List ℕ
entry_lines e = block (codes "      ") (codes "snapshotVersion")
    (classifier_line e.0.classifier ++ element (codes "        ") (codes "extension") e.0.extension
    ++ element (codes "        ") (codes "value") (build_version e)
    ++ element (codes "        ") (codes "updated") (moment_text e.1.build.stamp))

abbrev pub entries_lines : List Entry → List ℕ
entries_lines [] = []
entries_lines (e ∷ es) = block (codes "    ") (codes "snapshotVersions") (flat_map entry_lines (e ∷ es))

abbrev pub newest_lines : Option BuildOf → List ℕ
newest_lines None = []
newest_lines (Some b) = block (codes "    ") (codes "snapshot")
    (element (codes "      ") (codes "timestamp") (text_of_time b.stamp)
    ++ element (codes "      ") (codes "buildNumber") (text_of_number b.number))

abbrev pub updated_line : Option CivilTime → List ℕ
updated_line t = element_if (codes "    ") (codes "lastUpdated") (option_map moment_text t)

abbrev pub artifact_lines : List (List ℕ) → Option CivilTime → List ℕ
artifact_lines versions updated =
    element_if (codes "    ") (codes "latest") (latest versions)
    ++ element_if (codes "    ") (codes "release") (release versions)
    ++ version_lines versions ++ updated_line updated

abbrev pub snapshot_lines : Option BuildOf → List Entry → List ℕ
snapshot_lines newest entries =
    newest_lines newest ++ updated_line (option_map (λ b. b.stamp) newest) ++ entries_lines entries

abbrev pub listing_lines : Listing → List ℕ
listing_lines (Artifact versions updated) =
    block (codes "  ") (codes "versioning") (artifact_lines versions updated)
listing_lines (Snapshot base newest entries) =
    element (codes "  ") (codes "version") base
    ++ block (codes "  ") (codes "versioning") (snapshot_lines newest entries)

abbrev pub declaration : List ℕ
declaration = codes "<?xml version=\"1.0\" encoding=\"UTF-8\"?>" ++ 10 ∷ []

-- the document: declaration, root, two blanks a level, a line feed after each line
abbrev pub text : Document → List ℕ
text d =
    declaration ++ codes "<metadata modelVersion=\"1.1.0\">" ++ 10 ∷ []
    ++ element_if (codes "  ") (codes "groupId") d.group
    ++ element_if (codes "  ") (codes "artifactId") d.artifact
    ++ listing_lines d.listing
    ++ close_tag (codes "metadata") ++ 10 ∷ []
