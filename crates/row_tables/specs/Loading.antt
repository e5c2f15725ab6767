-- What a file of records loads to: the tables that the changes in its frames build up, or why it is refused.
use Rattle.std.specs.Prelude.{ℕ, ◌+◌, ◌==◌, Bool, false, if◌then◌else◌, List, [], ◌∷◌, length, take, Option, Some, None, Result, Ok, Err}
use Rattle.std.specs.Result.{result_ok}
use Rattle.record_log.specs.Frames.{Found, frames, frames_of}
use Rattle.repo_model.specs.declared.item.Item.{Item}
use Rattle.repo_model.specs.Tables.{Tables, no_tables, applied}
use Rattle.row_tables.specs.Reading.{taken}
use Rattle.row_tables.specs.Items.{change_bytes}
use Rattle.row_tables.specs.declared.faults.LoadFault.{LoadFault}
use Rattle.row_tables.specs.declared.faults.LoadFault.TheVariants.{NotOurs, Row}

-- the items of a change that takes so many bytes, all of a payload; where the payload is at fault else
abbrev pub of_size : ℕ → Result (List Item × ℕ) ℕ → Result (List Item) ℕ
of_size size (Ok change) = if change.1 == size then Ok change.0 else Err 0
of_size size (Err at) = Err at

abbrev pub change_in : List ℕ → Result (List Item) ℕ
change_in payload = of_size (length payload) (taken payload)

-- an item that does not fit is told by the byte where it begins, after the items in front of it
abbrev pub by_bytes : List Item → Result Tables ℕ → Result Tables ℕ
by_bytes items (Ok t) = Ok t
by_bytes items (Err place) = Err (length (change_bytes (take place items)))

abbrev pub with_change : Tables → Result (List Item) ℕ → Result Tables ℕ
with_change t (Ok items) = by_bytes items (applied t items)
with_change t (Err at) = Err at

-- the tables after the frame of a payload, or where the payload is at fault
abbrev pub after_frame : Tables → List ℕ → Result Tables ℕ
after_frame t payload = with_change t (change_in payload)

abbrev pub next_frame : ℕ → (Tables → Result Tables LoadFault) → Result Tables ℕ → Result Tables LoadFault
next_frame frame go (Ok t) = go t
next_frame frame go (Err at) = Err (Row frame at)

-- the tables after frames of which the first has a number, and after which one may be cut short
abbrev pub after_frames : ℕ → Bool → Tables → List (List ℕ) → Result Tables LoadFault
after_frames frame is_cut t [] = if is_cut then Err (Row frame 0) else Ok t
after_frames frame is_cut t (payload ∷ payloads) = next_frame frame (λ u. after_frames (frame + 1) is_cut u payloads) (after_frame t payload)

abbrev pub loading_of : Option Found → Result Tables LoadFault
loading_of None = Err NotOurs
loading_of (Some found) = after_frames 0 found.is_cut no_tables found.payloads

abbrev pub loading : List ℕ → Result Tables LoadFault
loading file = loading_of (frames_of (frames file))

-- the tables that a start reads from a file
abbrev pub tables_in : List ℕ → Option Tables
tables_in file = result_ok (loading file)

-- the tables that whole frames build up
abbrev pub built_up : List (List ℕ) → Result Tables LoadFault
built_up payloads = after_frames 0 false no_tables payloads
