-- A seat at the turns of a repository, as one who takes commands: its calls as entries of the repository.
use Rattle.std.specs.Prelude.{◌≡◌}
use Rattle.repo_model.specs.Command.{Command}
use Rattle.repo_model.specs.History.{Entry}
use Rattle.repo_model.specs.Reply.{Reply}
use Rattle.repo_model.specs.Settings.{Settings}
use Rattle.repo_model.specs.State.{State}
use Rattle.turn_lock.specs.declared.view.Entry.{Entry as Call}
use Rattle.turn_lock.specs.declared.turns.Turns.{Turns}
use Rattle.turn_lock.specs.declared.seat.SeatToken.{SeatToken as Seat}
use Rattle.turn_lock.specs.Seats.{IsSeatOf, Gains, number, joined, given, parts_of}
use Rattle.turn_seats.specs.Turning.{entry_leaving, IsTurn}

-- how an object and its calls are seen as a repository
pub record Sight (T C R : Type 0) : Type 0 where
  pub asked : C → Command
  pub answered : R → Reply
  pub settings : T → Settings
  pub state : T → State

module _ {T C R : Type 0} where
  -- a call of the turns as an entry of the repository
  abbrev pub entry_of : Sight T C R → Call C R T → Entry
  entry_of sight call = entry_leaving (sight.asked call.call) (sight.answered call.reply) (sight.state call.after)

  -- a step of the object is a turn of the repository, under the same settings
  abbrev pub IsTurnOf : Sight T C R → T → C → R → T → Type 0
  IsTurnOf sight before call reply after =
      IsTurn (sight.settings before) (sight.state before) (sight.asked call) (sight.answered reply) (sight.state after)
      × (sight.settings after ≡ sight.settings before)

  -- calls leave these as they are
  abbrev pub Stays : Seat C R T → Seat C R T → Type 0
  Stays old new = (number new ≡ number old) × (joined new ≡ joined old) × (given new ≡ given old) × (parts_of new ≡ parts_of old)

  -- one call of the seat: what it has seen goes on and ends with this entry, and its own entries gain just that
  pub record SeatTurn (sight : Sight T C R) (steps : T → C → R → T → Type 0) (turns : Turns T C R) (old : Seat C R T) (entry : Entry) (new : Seat C R T) : Type 0 where
    pub call : C
    pub reply : R
    pub gains : Gains old call reply new
    pub entry_is : entry ≡ entry_leaving (sight.asked call) (sight.answered reply) (sight.state gains.1)
    pub seat : IsSeatOf steps turns new
    pub stays : Stays old new
