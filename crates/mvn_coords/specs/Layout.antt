-- What a path names (Maven 2 repository layout): a file of an artifact, or the metadata document of a directory.
use Rattle.std.specs.Prelude.{ℕ, Bool, ◌&&◌, if◌then◌else◌, List, [], ◌∷◌, ◌++◌, Option, Some, None, is_some, Result, Ok, Err, codes}
use Rattle.std.specs.List.{list_all}
use Rattle.std.specs.Str.{bytes_eq}
use Rattle.byte_cuts.specs.Cuts.{significant}
use Rattle.mvn_coords.specs.declared.fault.PathFault.{PathFault}
use Rattle.mvn_coords.specs.declared.fault.PathFault.TheVariants as fault
use Rattle.mvn_coords.specs.Civil.{text_of_time, digits}
use Rattle.mvn_coords.specs.Segment.{Segment, path_of_levels, are_group_bytes, are_artifact_bytes, fits_version}
use Rattle.mvn_coords.specs.FileName.{BuildOf, Ending, ◌>>=◌, base_of, is_filled, ending_in}

-- a file's coordinates: the group's segments joined by `/`, the classifier empty where there is none
pub record Coordinates : Type 0 where
  pub group : List ℕ
  pub artifact : List ℕ
  pub directory : List ℕ
  pub build : Option BuildOf
  pub classifier : List ℕ
  pub extension : List ℕ

-- a directory that has a document: an artifact's (or a group's, whose last segment then stands as the artifact), or with a version a snapshot directory; the group may be empty
pub record Directory : Type 0 where
  pub group : List ℕ
  pub artifact : List ℕ
  pub version : Option (List ℕ)

abbrev pub directory : List ℕ → List ℕ → Option (List ℕ) → Directory
directory group artifact version = record { group = group; artifact = artifact; version = version }

pub data Named : Type 0 where
  file : Coordinates → Named
  document : Directory → Named

abbrev pub all_groups : List Segment → Bool
all_groups groups = list_all are_group_bytes groups

-- which segments may stand as the group, the last one first, the artifact and the version directory
abbrev pub may_stand : List Segment → Segment → Segment → Bool
may_stand groups artifact version = all_groups groups && are_artifact_bytes artifact && fits_version version

abbrev pub coordinates_of : List ℕ → Segment → Segment → Ending → Coordinates
coordinates_of group artifact version e = record {
  group = group;
  artifact = artifact;
  directory = version;
  build = e.build;
  classifier = e.classifier;
  extension = e.extension;
}

abbrev pub with_ending : List Segment → Segment → Segment → Ending → Coordinates
with_ending groups artifact version e = coordinates_of (path_of_levels groups) artifact version e

abbrev pub file_in : Segment → Segment → Segment → List Segment → Result Coordinates PathFault
file_in name version artifact groups =
    if may_stand groups artifact version
    then (ending_in artifact version name (base_of version) >>= λ e. Ok (with_ending groups artifact version e))
    else Err fault.BadSegment

-- a file by its path's segments, the last one first: name, version directory, artifact, group
abbrev pub file_of : List Segment → Result Coordinates PathFault
file_of (name ∷ version ∷ artifact ∷ group ∷ above) = file_in name version artifact (group ∷ above)
file_of _ = Err fault.Short

-- the directory of an artifact or a group
abbrev pub artifact_directory : Segment → List Segment → Result Directory PathFault
artifact_directory artifact groups =
    if all_groups groups && are_artifact_bytes artifact
    then Ok (directory (path_of_levels groups) artifact None)
    else Err fault.BadSegment

abbrev pub snapshot_directory : Segment → Segment → List Segment → Result Directory PathFault
snapshot_directory version artifact groups =
    if may_stand groups artifact version
    then Ok (directory (path_of_levels groups) artifact (Some version))
    else Err fault.BadSegment

-- a directory by its segments, the last one first: X-SNAPSHOT below an artifact and a group is a snapshot directory
abbrev pub directory_of : List Segment → Result Directory PathFault
directory_of [] = Err fault.Short
directory_of (last ∷ artifact ∷ group ∷ above) =
    if is_some (base_of last) then snapshot_directory last artifact (group ∷ above)
    else artifact_directory last (artifact ∷ group ∷ above)
directory_of (last ∷ above) = artifact_directory last above

-- what the segments without a side suffix name, the last one first
abbrev pub named : List Segment → Result Named PathFault
named [] = Err fault.Short
named (name ∷ above) =
    if bytes_eq name (codes "maven-metadata.xml")
    then (directory_of above >>= λ d. Ok (document d))
    else (file_of (name ∷ above) >>= λ c. Ok (file c))

-- a build's number without leading zeros; a build: its timestamp, `-` and its number
abbrev pub text_of_number : ℕ → List ℕ
text_of_number n = significant (digits 9 n)

abbrev pub text_of_build : BuildOf → List ℕ
text_of_build b = text_of_time b.stamp ++ 45 ∷ text_of_number b.number

-- the version that a file's name has: the version directory, but with a build in the place of `SNAPSHOT`
abbrev pub version_with : List ℕ → Option BuildOf → Option (List ℕ) → List ℕ
version_with version (Some build) (Some base) = base ++ 45 ∷ text_of_build build
version_with version build base = version

abbrev pub version_of : Coordinates → List ℕ
version_of c = version_with c.directory c.build (base_of c.directory)

abbrev pub tail_text : List ℕ → List ℕ → List ℕ
tail_text classifier extension =
    if is_filled classifier then 45 ∷ classifier ++ 46 ∷ extension else 46 ∷ extension

-- a file's name, its directories, and its path
abbrev pub name_of : Coordinates → List ℕ
name_of c = c.artifact ++ 45 ∷ version_of c ++ tail_text c.classifier c.extension

abbrev pub artifact_directory_of : Coordinates → List ℕ
artifact_directory_of c = c.group ++ 47 ∷ c.artifact

abbrev pub version_directory_of : Coordinates → List ℕ
version_directory_of c = artifact_directory_of c ++ 47 ∷ c.directory

abbrev pub text_of : Coordinates → List ℕ
text_of c = version_directory_of c ++ 47 ∷ name_of c

-- a directory's path
abbrev pub below_group : List ℕ → List ℕ → List ℕ
below_group group artifact = if is_filled group then group ++ 47 ∷ artifact else artifact

abbrev pub version_part : Option (List ℕ) → List ℕ
version_part None = []
version_part (Some version) = 47 ∷ version

abbrev pub text_of_directory : Directory → List ℕ
text_of_directory d = below_group d.group d.artifact ++ version_part d.version

-- the path of a directory's document
abbrev pub text_of_document : Directory → List ℕ
text_of_document d = text_of_directory d ++ 47 ∷ codes "maven-metadata.xml"
