-- Desks and the cleaner at once, from the seat with all parts to the end of the history.
use Rattle.std.specs.Prelude.{◌≡◌, ℕ, Bool, List, [], map}
use Rattle.std.specs.List.{AllZip, list_any}
use Rattle.repo_model.specs.Command.{Command}
use Rattle.repo_model.specs.Reply.{Reply}
use Rattle.repo_model.specs.Settings.{Settings}
use Rattle.repo_model.specs.History as machine
use Rattle.run_desks.specs.Seen.{CleanerResources, RunResources, Looks}
use Rattle.turn_lock.specs.declared.turns.Turns.{Turns}
use Rattle.turn_lock.specs.declared.seat.SeatToken.{SeatToken as Seat}
use Rattle.turn_lock.specs.Seats.{opening, seen, mine, joined, parts_of, IsSeatOf, Same}
use Rattle.turn_seats.specs.Ending.{Ended}
use Rattle.turn_seats.specs.Seated.{entry_of}
use Rattle.turn_seats.specs.Histories.{IsHistory}
use Rattle.seat_server.specs.Passages.{KeptClean}
use Rattle.seat_server.specs.Rules.{Rules}
use Rattle.desk_work.specs.Visits.{Attended, IsOver}

-- a seat at the turns of a repository with these settings, whose calls and replies are seen so
pub record IsReady {T C R : Type 0} (rules : Rules T C R) (asked : C → Command) (answered : R → Reply) (settings : Settings) (turns : Turns T C R) (seat : Seat C R T) : Type 0 where
  pub asks_so : (call : C) → rules.sight.asked call ≡ asked call
  pub answers_so : (reply : R) → rules.sight.answered reply ≡ answered reply
  pub seat_is : IsSeatOf rules.steps turns seat
  pub settings_are : rules.sight.settings (opening turns) ≡ settings

-- a seat of one part, which had seen what the first one had, and had made no call
abbrev pub IsBegun : {T C R : Type 0} → Seat C R T → Seat C R T → Type 0
IsBegun first own = (seen own ≡ seen first) × (mine own ≡ []) × (joined own ≡ []) × (parts_of own ≡ 1)

-- a desk served the connections of its port with a seat, until it was over, and says whether the port failed
abbrev pub DeskServes : {L P D T C R : Type 0} → Looks L P D → Rules T C R → Settings → Turns T C R → Seat C R T → D → Seat C R T × (D × Bool) → Type 0
DeskServes looks rules settings turns seat desk out =
    Attended looks rules settings turns seat out.0 desk out.1.0
    × IsOver out.1.1 (looks.left (looks.port out.1.0)) (looks.faults (looks.port desk)) (looks.faults (looks.port out.1.0))

-- so it did with a seat of its own
abbrev pub DeskDone : {L P D T C R : Type 0} → Looks L P D → Rules T C R → Settings → Turns T C R → Seat C R T → D → Seat C R T × (D × Bool) → Type 0
DeskDone {L} {P} {D} {T} {C} {R} looks rules settings turns first desk out = (own : Seat C R T) × IsBegun first own × DeskServes looks rules settings turns own desk out

-- the cleaner made its passes with the first seat, but for the parts that were split off
abbrev pub CleanedBeside : {T C R : Type 0} → Rules T C R → Settings → Turns T C R → Seat C R T → Seat C R T → CleanerResources → CleanerResources → Type 0
CleanedBeside {T} {C} {R} rules settings turns first new before after =
    (handed : Seat C R T) × Same first handed × KeptClean rules settings turns handed new before after

-- Each desk served with a seat of its own, and the cleaner made its passes with the seat handed in, but for the parts that were split off. Together these seats have all entries of one history of the
-- repository, which ended: the object is its end, and the number of calls its length. The desks came back, and a port failed where one of them says so
pub record Works {L P D T C R : Type 0} (looks : Looks L P D) (rules : Rules T C R) (settings : Settings) (turns : Turns T C R) (first : Seat C R T)
    (old new : RunResources (List D)) (thing : T) (calls : ℕ) (failed : Bool) : Type 0 where
  pub outs : List (Seat C R T × (D × Bool))
  pub done : AllZip (DeskDone looks rules settings turns first) old.desks outs
  pub cleaning : Seat C R T
  pub cleaned : CleanedBeside rules settings turns first cleaning old.cleaner new.cleaner
  pub ended : Ended rules.steps turns cleaning (map (λ (out : Seat C R T × (D × Bool)). out.0) outs) thing calls
  pub history : IsHistory rules.sight (opening turns) ended.log
  pub leaves : rules.sight.state thing ≡ machine.end (rules.sight.settings (opening turns)) (rules.sight.state (opening turns)) (map (entry_of rules.sight) ended.log)
  pub back_are : new.desks ≡ map (λ (out : Seat C R T × (D × Bool)). out.1.0) outs
  pub failed_is : failed ≡ list_any (λ (out : Seat C R T × (D × Bool)). out.1.1) outs
