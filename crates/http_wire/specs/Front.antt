-- What a stream of bytes begins with: a request head, a part of one, or nothing (RFC 9112, sections 2.1 and 2.2).
use Rattle.std.specs.Prelude.{ℕ, ◌+◌, Bool, false, ◌&&◌, ◌||◌, ◌==◌, nat_lt, List, [], ◌∷◌, length, take, drop, slice_range, count_by, Option, Some, None, if◌then◌else◌}
use Rattle.std.specs.Option.{option_map}
use Rattle.std.specs.List.{list_all}
use Rattle.httparse.specs.Ascii.{carriage_return, line_feed}
use Rattle.http_wire.specs.declared.faults.HeadFault.{HeadFault}
use Rattle.http_wire.specs.declared.faults.HeadFault.TheVariants.{Broken, TooLong}
use Rattle.http_wire.specs.Head.{Head, head_of}

-- the first byte of the list is this one
abbrev pub begins_with : ℕ → List ℕ → Bool
begins_with c [] = false
begins_with c (b ∷ bytes) = b == c

-- CR or LF
abbrev pub is_line_byte : ℕ → Bool
is_line_byte b = b == carriage_return || b == line_feed

-- how many bytes the blank lines in front have; a CR that no LF follows is not blank
abbrev pub blank_length : List ℕ → ℕ
blank_length [] = 0
blank_length (b ∷ bytes) =
    if b == line_feed || (b == carriage_return && begins_with line_feed bytes) then 1 + blank_length bytes else 0

-- how many bytes there are up to the end of the first empty line: an LF, or CR LF, right after an LF
abbrev pub empty_line_end : List ℕ → Option ℕ
empty_line_end [] = None
empty_line_end (b ∷ bytes) =
    if b == line_feed && begins_with line_feed bytes then Some 2
    else (if b == line_feed && (begins_with carriage_return bytes && begins_with line_feed (drop 1 bytes)) then Some 3
    else option_map (λ n. 1 + n) (empty_line_end bytes))

-- where the first whole head of the bytes begins, after the blank lines, and where it ends
unfoldable pub head_place : List ℕ → Option (ℕ × ℕ)
head_place bytes =
    let start = blank_length bytes in
    option_map (λ n. (start, start + n)) (empty_line_end (drop start bytes))

-- what a stream begins with
pub data Front : Type 0 where
  -- the end, or blank lines alone
  Clean : Front
  -- a part of a head
  Cut : Front
  -- a head that is refused
  Bad : HeadFault → Front
  -- a whole head, and the bytes after it
  Whole : Head → List ℕ → Front

-- the head that was read, or none
abbrev pub whole_of : Option Head → List ℕ → Front
whole_of (Some head) rest = Whole head rest
whole_of None rest = Bad Broken

-- the head is read, unless it has more than 64 field lines: its line feeds end the first line, these and the empty one
unfoldable pub judged : List ℕ → List ℕ → Front
judged bytes rest =
    if nat_lt (64 + 2) (count_by (λ b. b == line_feed) bytes) then Bad TooLong
    else whole_of (head_of bytes) rest

-- the stream ends before a whole head
abbrev pub unfinished : List ℕ → Front
unfinished bytes = if list_all is_line_byte bytes then Clean else Cut

-- what the bytes begin with, where their first whole head has this place
abbrev pub front_at : List ℕ → Option (ℕ × ℕ) → Front
front_at bytes (Some place) = judged (slice_range bytes place.0 place.1) (drop place.1 bytes)
front_at bytes None = if nat_lt (length bytes) 8192 then unfinished bytes else Bad TooLong

-- what the bytes begin with; a head has to end within the first 8,192 bytes, blank lines before it included
unfoldable pub front : List ℕ → Front
front bytes = front_at bytes (head_place (take 8192 bytes))
