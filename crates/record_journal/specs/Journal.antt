-- What a journal tells, and what a crash at any moment leaves of it.
use Rattle.std.specs.Prelude.{◌≡◌, ◌⊎◌, ◌≤◌, ◌+◌, [], length, ℕ, List, take, Option, Some, None, IsSome, IfSome, option_and_then, Ok}
use Rattle.std.specs.Option.{option_map}
use Rattle.std.specs.Result.{result_ok}
use Rattle.record_disk.specs.Disk.{Told, Trace, After, Sync, content, AllImages, Throughout}
use Rattle.record_log.specs.Frames.{frames, gate_of, EndsAt}
use Rattle.record_log.specs.Log.{LogState, StandsFor, MaySync}
use Rattle.repo_model.specs.declared.item.Item.{Item}
use Rattle.repo_model.specs.Tables.{Tables, applied}
use Rattle.row_tables.specs.Applying.{with_items}
use Rattle.row_tables.specs.Records.{Expected}
use Rattle.row_tables.specs.Crashes.{Rests, Unsettled}
use Rattle.row_tables.specs.Items.{change_bytes}
use Rattle.row_tables.specs.Leaving.{End, Shown, done, failing, wanting}
use Rattle.row_tables.specs.Loading.{change_in, loading, built_up}

-- the part of a file that its journal has acknowledged: what stands in front of a frame that failed
abbrev pub acknowledged : ℕ → Option (List ℕ) → List ℕ → List ℕ
acknowledged gate None file = file
acknowledged gate (Some payload) file = take gate file

-- what a load of a journal gives that neither fails nor runs out of memory, where its disk tells
abbrev pub expected_by : Option Trace → ℕ → Option (List ℕ) → Option Expected
expected_by trace gate pending = option_map (λ t. loading (acknowledged gate pending (content t))) trace

abbrev pub expected_of : LogState → Option Expected
expected_of log = expected_by log.trace log.gate log.pending

-- the tables of a journal, where such a load gives them
abbrev pub tables_by : Option Trace → ℕ → Option (List ℕ) → Option Tables
tables_by trace gate pending = option_and_then result_ok (expected_by trace gate pending)

abbrev pub tables_of : LogState → Option Tables
tables_of log = tables_by log.trace log.gate log.pending

-- the change of a payload that is pending
abbrev pub items_of : Option (List ℕ) → Option (List Item)
items_of pending = option_and_then (λ payload. result_ok (change_in payload)) pending

-- what a crash may leave of a journal beside its tables
abbrev pub unsettled_of : LogState → Unsettled
unsettled_of log = record { pending = items_of log.pending; trace = log.trace }

-- a file that loads to these tables; or to these with the change of a payload
abbrev pub LoadsTo : Tables → List ℕ → Type 0
LoadsTo t file = loading file ≡ Ok t

abbrev pub LoadsOneMore : Tables → List ℕ → List ℕ → Type 0
LoadsOneMore t payload file = (items : List Item) × (change_in payload ≡ Ok items) × LoadsTo (with_items t items) file

-- a file that loads to these tables, or to these with the pending change
abbrev pub MayLoad : Tables → Option (List ℕ) → List ℕ → Type 0
MayLoad t None file = LoadsTo t file
MayLoad t (Some payload) file = LoadsTo t file ⊎ LoadsOneMore t payload file

-- the pending payload is a change that fits the tables
abbrev pub Fits : Tables → Option (List ℕ) → Type 0
Fits t None = Unit {0}
Fits t (Some payload) = (items : List Item) × (change_in payload ≡ Ok items) × (applied t items ≡ Ok (with_items t items))

-- the frames of the acknowledged changes stand in the file, and after them nothing, or what is left of one that failed
pub record IsStanding (gate : ℕ) (pending : Option (List ℕ)) (trace : Trace) : Type 0 where
  pub payloads : List (List ℕ)
  pub stands : StandsFor gate pending payloads trace
  pub tables : Tables
  pub builds : built_up payloads ≡ Ok tables
  pub fits : Fits tables pending

-- The last load has given the tables: its gate stands after the magic, which that of a new journal does not, and where its
-- disk tells, the frames of the tables stand in the file.
pub record IsReady (log : LogState) : Type 0 where
  pub behind : 8 ≤ log.gate
  pub standing : IfSome log.trace (IsStanding log.gate log.pending)

-- It is ready, and a crash now leaves the tables, or these with the change that is pending.
pub record MayCommit (log : LogState) : Type 0 where
  pub ready : IsReady log
  pub rests : Rests (tables_of log) (unsettled_of log)

-- only a journal that was ready has a frame that failed
abbrev pub IsSteady : LogState → Type 0
IsSteady log = IsSome log.pending → IsReady log

-- Where every image loads to the tables that are told, or to these with the pending change, it does so at each moment from
-- one trace to the other, and at the end of it with what is pending then.
pub record KeepsTables (told : Option Tables) (before after : Option (List ℕ)) (old new : Trace) : Type 0 where
  pub moments : (t : Tables) → told ≡ Some t → AllImages (MayLoad t before) old → Throughout (MayLoad t before) old new
  pub images : (t : Tables) → told ≡ Some t → AllImages (MayLoad t before) old → AllImages (MayLoad t after) new

-- Nothing was done; or the file was synced first, and where it then loads, each image does from then on, to the same tables.
abbrev pub Recovers : Trace → Trace → Type 0
Recovers old new = (new ≡ old) ⊎ ((t : Tables) → LoadsTo t (content old) → Throughout (LoadsTo t) (After Sync (content old) old) new)

-- A file whose frames end with a closed gate is at most synced.
abbrev pub IsStill : Trace → Trace → Type 0
IsStill old new = (gate : ℕ) → gate_of (frames (content old)) ≡ Some gate → EndsAt gate (content old) → MaySync old new

-- At each moment every image loads to the tables that are told, or to these with the change that is added.
abbrev pub Adds : Option Tables → List Item → Trace → Trace → Type 0
Adds told items old new =
    (t : Tables) → told ≡ Some t → Throughout (λ image. LoadsTo t image ⊎ LoadsTo (with_items t items) image) old new

-- A commit over these tables in two phases. Until the pending change is undone every image loads to the tables, or to these with
-- that change, and the commit may end so. Where it is undone every image loads to the tables alone, and from there on to these, or
-- to these with the change that is committed.
pub record CommitsTo (t : Tables) (pending : Option (List ℕ)) (items : List Item) (old new : Trace) : Type 0 where
  pub undone : Trace
  pub first : Throughout (MayLoad t pending) old undone
  pub later : (new ≡ undone)
      ⊎ (AllImages (LoadsTo t) undone × Throughout (λ image. LoadsTo t image ⊎ LoadsTo (with_items t items) image) undone new)

abbrev pub Commits : Option Tables → Option (List ℕ) → List Item → Trace → Trace → Type 0
Commits told pending items old new = (t : Tables) → told ≡ Some t → CommitsTo t pending items old new

-- Nothing is added: at each moment every image loads to the tables that are told, or to these with the pending change.
abbrev pub AddsNothing : Option Tables → Option (List ℕ) → Trace → Trace → Type 0
AddsNothing told pending old new = (t : Tables) → told ≡ Some t → Throughout (MayLoad t pending) old new

-- what a journal shows
abbrev pub shown_of : LogState → Shown
shown_of log = record { tables = tables_of log; faults = log.faults; unsettled = unsettled_of log; IsReady = MayCommit log }

-- nothing of a change was framed
pub record NoFrame (items : List Item) (old new : LogState) : Type 0 where
  pub gate : new.gate ≡ old.gate
  pub pending : (new.pending ≡ None) ⊎ (new.pending ≡ old.pending) ⊎ (new.pending ≡ Some (change_bytes items))
  pub nothing : (new.pending ≡ Some (change_bytes items)) ⊎ Told old.trace new.trace (AddsNothing (tables_of old) old.pending)

-- What becomes of the frame of a change. Where it is committed nothing is pending; an empty change has no frame, and is committed
-- with nothing done where nothing is pending; any other has just one, of its own bytes. Else the gate stays, the change is pending, or
-- no crash leaves a file with it, and what was pending is so still, or was undone; an empty change fails only where the disk does, and
-- what was pending is so still.
abbrev pub Frames : List Item → End → LogState → LogState → Type 0
Frames items done old new =
    (new.pending ≡ None) × (items ≡ [] → (new.gate ≡ old.gate) × (old.pending ≡ None → new ≡ old)) × ((items ≡ []) ⊎ (new.gate ≡ old.gate + 5 + length (change_bytes items)))
Frames items wanting old new = NoFrame items old new × (items ≡ [] → ⊥)
Frames items failing old new = NoFrame items old new × (items ≡ [] → (old.pending ≡ None → ⊥) × (new.pending ≡ old.pending))
