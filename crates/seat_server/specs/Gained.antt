-- What a seat gained by calls, one after another.
use Rattle.std.specs.Prelude.{◌≡◌, List, ◌++◌, map}
use Rattle.repo_model.specs.History.{Entry}
use Rattle.turn_lock.specs.declared.view.Entry.{Entry as Call}
use Rattle.turn_lock.specs.declared.turns.Turns.{Turns}
use Rattle.turn_lock.specs.declared.seat.SeatToken.{SeatToken as Seat}
use Rattle.turn_lock.specs.History.{BeginsWith}
use Rattle.turn_lock.specs.Seats.{IsSeatOf, seen, mine}
use Rattle.turn_seats.specs.Seated.{Sight, Stays, entry_of}

-- the seat's own entries gained just these; what it has seen goes on, and is legal
pub record Gained {T C R : Type 0} (sight : Sight T C R) (steps : T → C → R → T → Type 0) (turns : Turns T C R) (old : Seat C R T) (entries : List Entry) (new : Seat C R T) : Type 0 where
  pub calls : List (Call C R T)
  pub mine_are : mine new ≡ mine old ++ calls
  pub entries_are : entries ≡ map (entry_of sight) calls
  pub saw : BeginsWith (seen new) (seen old)
  pub seat : IsSeatOf steps turns new
  pub stays : Stays old new
