-- A server: settings are read, a repository of these is opened over what is recorded and stored, and desks serve connections by it, and a cleaner beside them.
use Rattle.std.specs.Prelude.{◌≡◌, ℕ, Bool, List, [], Ok, Err}
use Rattle.repo_model.specs.Settings.{Settings}
use Rattle.repo_core.specs.Whole.{Whole}
use Rattle.repo_core.specs.declared.faults.StartFault.{StartFault}
use Rattle.repo_course.specs.Cleaning.{Store}
use Rattle.run_desks.specs.Seen.{RunResources, Looks, with_blobs}
use Rattle.run_lines.specs.Lines.{memory_line}
use Rattle.run_lines.specs.Printing.{Output, Prints}
use Rattle.run_lines.specs.Reading.{Reads}
use Rattle.repo_run.specs.Begun.{Begins, HoldsRecords, LeavesRecords, RefusesStart, StartFails}
use Rattle.repo_run.specs.Surroundings.{FirstOnly, View}
use Rattle.turn_lock.specs.declared.turns.Turns.{Turns}
use Rattle.turn_lock.specs.declared.seat.SeatToken.{SeatToken as Seat}
use Rattle.turn_lock.specs.Seats.{opening, seen, mine, joined}
use Rattle.seat_server.specs.Rules.{Rules}
use Rattle.desk_work.specs.Working.{Works}
use Rattle.run_serve.specs.Calls.{TellsWork}

-- the history begins with this repository, and the seat has seen nothing yet and has made no call
abbrev pub Opens : {C R : Type 0} → Whole → Turns Whole C R → Seat C R Whole → Type 0
Opens core turns seat = (opening turns ≡ core) × (seen seat ≡ []) × (mine seat ≡ []) × (joined seat ≡ [])

-- a desk has its port and its other things as they were, and other blobs
abbrev pub OtherBlobs : {L P D : Type 0} → Looks L P D → (Store → Store → Type 0) → D → D → Type 0
OtherBlobs looks Related old new =
    (looks.port new ≡ looks.port old) × (looks.resources new ≡ with_blobs (looks.resources new).blobs (looks.resources old)) × Related (looks.resources old).blobs (looks.resources new).blobs

module _ {L P D C R : Type 0} (looks : Looks L P D) (rules : Rules Whole C R) where
  -- A repository that was opened is worked with, or memory ran out before any connection was served. What it changed is recorded, and a line tells the number of all calls, or that a port failed
  pub data ServesWith (settings : Settings) (core : Whole) (old : RunResources (List D)) (out : Output) (new : View (RunResources (List D))) (status : ℕ) : Type 0 where
    refused : new.place ≡ old → HoldsRecords core new.records → new.clock ≡ core.state.clock → Prints memory_line out new.out → status ≡ 8
        → ServesWith settings core old out new status
    worked : (turns : Turns Whole C R) (seat : Seat C R Whole) (left : Whole) (calls : ℕ) (failed : Bool) → Opens core turns seat
        → Works looks rules settings turns seat old new.place left calls failed
        → HoldsRecords left new.records → new.clock ≡ left.state.clock → TellsWork failed calls out new.out status
        → ServesWith settings core old out new status

  -- The repository is opened over what is recorded and over the first desk's blobs, and worked with; or it is not opened, and a line tells why
  pub data ServesBy (settings : Settings) (old new : View (RunResources (List D))) (status : ℕ) : Type 0 where
    not_started : (fault : StartFault) → FirstOnly (OtherBlobs looks (λ blobs blobs'. StartFails old.records new.records blobs blobs' fault)) old.place.desks new.place.desks
        → new.place.cleaner ≡ old.place.cleaner → new.clock ≡ old.clock → RefusesStart fault old.out new.out status → ServesBy settings old new status
    started : (core : Whole) (begun : List D) → FirstOnly (OtherBlobs looks (λ blobs blobs'. Begins settings old.records blobs blobs' old.clock core)) old.place.desks begun
        → ServesWith settings core (record old.place { desks = begun }) old.out new status → ServesBy settings old new status

  -- A server, by what comes of reading its settings: there are none, or they are served by
  pub data Serves (old new : View (RunResources (List D))) (status : ℕ) : Type 0 where
    unread : Reads old.source new.source old.out new.out (Err status) → new.place ≡ old.place → LeavesRecords old.records new.records → new.clock ≡ old.clock
        → Serves old new status
    read : (settings : Settings) → Reads old.source new.source old.out old.out (Ok settings) → ServesBy settings old new status → Serves old new status
