-- The end of a history that many callers made: what it holds of each, and that it holds nothing else.
use Rattle.std.specs.Prelude.{◌≡◌, ◌⊎◌, ℕ, ◌+◌, List, [], length, All, sum_by}
use Rattle.turn_lock.specs.declared.view.Entry.{Entry}
use Rattle.turn_lock.specs.declared.turns.Turns.{Turns}
use Rattle.turn_lock.specs.declared.seat.SeatToken.{SeatToken as Seat}
use Rattle.turn_lock.specs.History.{Legal, end_of, entries_by, BeginsWith, times, AllKept}
use Rattle.turn_lock.specs.Seats.{opening, seen, callers}

module _ {T C R : Type 0} where
  -- the history begins with what the seat has seen, and the entries of each of its callers are those that the seat has of him
  abbrev pub HoldsSeat : List (Entry C R T) → Seat C R T → Type 0
  HoldsSeat log seat = BeginsWith log (seen seat) × AllKept log (callers seat)

  -- how often the number is one of a seat's callers
  abbrev pub times_in : ℕ → Seat C R T → ℕ
  times_in k seat = times k (callers seat)

-- The whole history is legal, the object is its end, and the number of calls its length. It holds each of these seats. Each entry is of one of their callers, who each stand there once
pub record Ended {T C R : Type 0} (steps : T → C → R → T → Type 0) (turns : Turns T C R) (seat : Seat C R T) (others : List (Seat C R T)) (thing : T) (calls : ℕ) : Type 0 where
  pub log : List (Entry C R T)
  pub legal : Legal steps (opening turns) log
  pub end : thing ≡ end_of (opening turns) log
  pub long : calls ≡ length log
  pub first : HoldsSeat log seat
  pub rest : All (HoldsSeat log) others
  pub nobody_else : (k : ℕ) → (times_in k seat + sum_by (times_in k) others ≡ 1) ⊎ ((times_in k seat + sum_by (times_in k) others ≡ 0) × (entries_by k log ≡ []))
