-- The segments of a path, and what each may be made of (Maven 2 repository layout).
use Rattle.std.specs.Prelude.{ℕ, Bool, not, ◌&&◌, ◌||◌, ◌==◌, nat_le, nat_lt, List, length, reverse, codes}
use Rattle.std.specs.Char.{is_ascii_alphanumeric}
use Rattle.std.specs.List.{list_all, slice_split, join_with_byte}
use Rattle.std.specs.Str.{bytes_eq}

-- a segment as its bytes
abbrev pub Segment : Type 0
Segment = List ℕ

-- the parts of a path between its slashes
abbrev pub segments : List ℕ → List Segment
segments path = slice_split (λ b. b == 47) path

-- the same from the last to the first
abbrev pub levels : List ℕ → List Segment
levels path = reverse (segments path)

-- the path with these segments, the last one first
abbrev pub path_of_levels : List Segment → List ℕ
path_of_levels above = join_with_byte 47 (reverse above)

-- letters, digits, `_` and `-`
abbrev pub is_group_byte : ℕ → Bool
is_group_byte b = is_ascii_alphanumeric b || (b == 95) || (b == 45)

-- these and `.`
abbrev pub is_artifact_byte : ℕ → Bool
is_artifact_byte b = is_group_byte b || (b == 46)

-- these and `+`
abbrev pub is_path_byte : ℕ → Bool
is_path_byte b = is_artifact_byte b || (b == 43)

-- 1 to 255 bytes of the path's alphabet, but not `.` and not `..`
abbrev pub is_segment : Segment → Bool
is_segment s =
    nat_lt 0 (length s) && nat_le (length s) 255 && not (bytes_eq s (codes "."))
    && not (bytes_eq s (codes "..")) && list_all is_path_byte s

-- letters, digits, `_` and `-` alone
abbrev pub are_group_bytes : Segment → Bool
are_group_bytes s = list_all is_group_byte s

-- these and `.` alone
abbrev pub are_artifact_bytes : Segment → Bool
are_artifact_bytes s = list_all is_artifact_byte s

-- at most 128 bytes, and not the snapshot of nothing
abbrev pub fits_version : Segment → Bool
fits_version s =
    nat_le (length s) 128 && not (bytes_eq s (codes "SNAPSHOT")) && not (bytes_eq s (codes "-SNAPSHOT"))

-- a segment of a group, an artifact, and a version directory
abbrev pub is_group_segment : Segment → Bool
is_group_segment s = is_segment s && are_group_bytes s

abbrev pub is_artifact : Segment → Bool
is_artifact s = is_segment s && are_artifact_bytes s

abbrev pub is_version_directory : Segment → Bool
is_version_directory s = is_segment s && fits_version s
