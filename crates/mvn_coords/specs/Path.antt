-- The path rule (Maven 2 repository layout; repository metadata 1.1.0): what a path of a repository names and for which side file, or the first step that it breaks.
use Rattle.std.specs.Prelude.{◌≡◌, ℕ, Bool, true, false, not, ◌||◌, ◌==◌, nat_eq, nat_lt, if◌then◌else◌, List, ◌∷◌, ◌++◌, length, Option, Some, None, Result, Ok, Err, codes, ◌≤◌}
use Rattle.std.specs.List.{list_all, ends_with}
use Rattle.mvn_coords.specs.declared.fault.PathFault.{PathFault}
use Rattle.mvn_coords.specs.declared.fault.PathFault.TheVariants as fault
use Rattle.mvn_coords.specs.declared.fault.Side.{Side}
use Rattle.mvn_coords.specs.declared.fault.Side.TheVariants.{Sha1, Md5, Sha256, Sha512}
use Rattle.mvn_coords.specs.Segment.{Segment, levels, is_segment, is_path_byte}
use Rattle.byte_cuts.specs.Cuts.{before}
use Rattle.mvn_coords.specs.FileName.{◌>>=◌}
use Rattle.mvn_coords.specs.Layout.{Coordinates, Directory, Named, file, document, named, text_of, text_of_document}

-- the suffix of a side file's name
abbrev pub suffix_of : Side → List ℕ
suffix_of Sha1 = codes ".sha1"
suffix_of Md5 = codes ".md5"
suffix_of Sha256 = codes ".sha256"
suffix_of Sha512 = codes ".sha512"

-- a path ends in a side file's suffix; what its last segment ends in, the path ends in
abbrev pub has_suffix : List ℕ → Bool
has_suffix path =
    ends_with nat_eq path (codes ".sha1") || ends_with nat_eq path (codes ".md5")
    || ends_with nat_eq path (codes ".sha256") || ends_with nat_eq path (codes ".sha512")

-- a path without its side suffix, and the side; the rest of a side file's path has no suffix again
pub record Cut : Type 0 where
  pub path : List ℕ
  pub side : Option Side

abbrev pub cut_off : Side → List ℕ → Result Cut PathFault
cut_off side path = if has_suffix path then Err fault.BadSide else Ok (record { path = path; side = Some side })

abbrev pub cut_by : Side → Option (List ℕ) → Result Cut PathFault → Result Cut PathFault
cut_by side (Some rest) other = cut_off side rest
cut_by side None other = other

abbrev pub cut_at : Side → List ℕ → Result Cut PathFault → Result Cut PathFault
cut_at side path other = cut_by side (before (suffix_of side) path) other

abbrev pub cut_side : List ℕ → Result Cut PathFault
cut_side path =
    cut_at Sha1 path (cut_at Md5 path (cut_at Sha256 path (cut_at Sha512 path (Ok (record { path = path; side = None })))))

-- what a path names, and the side where it is a side file's
pub record Parts : Type 0 where
  pub thing : Named
  pub side : Option Side

abbrev pub parts_by : Cut → Result Parts PathFault
parts_by cut = named (levels cut.path) >>= λ thing. Ok (record { thing = thing; side = cut.side })

-- the rule, step by step: the length, each segment, the side, and what the segments name
unfoldable pub parts_of : List ℕ → Result Parts PathFault
parts_of path =
    if length path == 0 then Err fault.Empty
    else (if nat_lt 1024 (length path) then Err fault.Long
    else (if not (list_all is_segment (levels path)) then Err fault.BadSegment
    else (cut_side path >>= parts_by)))

-- these are the coordinates of a file: their path names them
abbrev pub IsFile : Coordinates → Type 0
IsFile c = parts_of (text_of c) ≡ Ok (record { thing = file c; side = None })

-- this directory has a document: the path of its document names it
abbrev pub IsDirectory : Directory → Type 0
IsDirectory d = parts_of (text_of_document d) ≡ Ok (record { thing = document d; side = None })

-- a path without a side suffix, whose segments may stand in a path but for what a cut suffix left of the last one
pub record IsPlain (path : List ℕ) : Type 0 where
  pub short : length path ≤ 1024
  pub plain : has_suffix path ≡ false
  pub above : (name : Segment) (above : List Segment) → levels path ≡ name ∷ above → list_all is_segment above ≡ true
  pub bytes : (name : Segment) (above : List Segment) → levels path ≡ name ∷ above → list_all is_path_byte name ≡ true
  pub size : (name : Segment) (above : List Segment) → levels path ≡ name ∷ above → length name ≤ 255

-- the path of a directory and a last segment
pub record IsBelow (path above name : List ℕ) : Type 0 where
  pub joined : path ≡ above ++ 47 ∷ name
  pub split : levels path ≡ name ∷ levels above
