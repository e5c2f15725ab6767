-- What a search for the end of a head knows while its bytes come in pieces.
use Rattle.std.specs.Prelude.{◌≡◌, ◌≢◌, ℕ, ◌+◌, ◌-◌, ◌<◌, ◌≤◌, ◌==◌, List, ◌∷◌, ◌++◌, length, take, slice_index, Option, Some, if◌then◌else◌}
use Rattle.std.specs.Option.{option_map}
use Rattle.httparse.specs.Ascii.{line_feed}
use Rattle.http_wire.specs.Front.{empty_line_end, head_place}

-- the place, so many bytes further
abbrev pub moved : ℕ → Option (ℕ × ℕ) → Option (ℕ × ℕ)
moved count place = option_map (λ p. (count + p.0, count + p.1)) place

-- the head's place, from the bytes that follow the lines before `line`: all these are blank where the head would
-- begin there, and else the head began at `start` and the last of them is no empty one
unfoldable pub place_from : ℕ → ℕ → List ℕ → Option (ℕ × ℕ)
place_from start line bytes =
    if start == line then moved line (head_place bytes)
    else option_map (λ n. (start, line - 1 + n)) (empty_line_end (line_feed ∷ bytes))

-- whatever follows the lines before `line`, the place comes from it; from `line` to `at` there is no line feed
pub record IsOpen (bytes : List ℕ) (start line at : ℕ) : Type 0 where
  pub started : start ≤ line
  pub lined : line ≤ at
  pub within : at ≤ length bytes
  pub lines : (following : List ℕ) → head_place (take line bytes ++ following) ≡ place_from start line following
  pub unended : (k : ℕ) → line ≤ k → k < at → slice_index bytes k ≢ line_feed

-- the bytes have a whole head from start to end, whatever follows
pub record IsHeadAt (bytes : List ℕ) (start end : ℕ) : Type 0 where
  pub ordered : start < end
  pub within : end ≤ length bytes
  pub place : (following : List ℕ) → head_place (take end bytes ++ following) ≡ Some (start, end)
