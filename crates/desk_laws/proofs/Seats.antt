-- What the seats of a server have seen is a front of its one history, and closed.
use Rattle.std.proofs.Common.{◌++◌, List, [], ◌∷◌, subst}
use Rattle.turn_lock.specs.declared.view.Entry.{Entry as Call}
use Rattle.turn_lock.specs.declared.seat.SeatToken.{SeatToken as Seat}
use Rattle.turn_lock.specs.History.{Legal}
use Rattle.turn_lock.specs.Seats.{seen}
use Rattle.turn_seats.specs.Ending.{HoldsSeat}
use Rattle.turn_seats.specs.Histories.{is_history}
use Rattle.turn_seats.specs.Seated.{IsTurnOf, Sight}
use Rattle.seat_laws.specs.Closing.{IsFit, SeesAll}
use Rattle.seat_laws.proofs.Closing.{sees-all}

module _ {T C R : Type 0} (sight : Sight T C R) (steps : T → C → R → T → Type 0)
    (is_turn : (before after : T) (call : C) (reply : R) → steps before call reply after → IsTurnOf sight before call reply after) where
  front-legal : (x : T) (xs ys : List (Call C R T)) → Legal steps x (xs ++ ys) → Legal steps x xs
  front-legal x [] ys legal = tt
  front-legal x (e ∷ es) ys legal = (legal.0, front-legal e.after es ys legal.1)

  pub log-sees : (x : T) (log : List (Call C R T)) → IsFit sight x → Legal steps x log → SeesAll sight x log
  log-sees x log fit legal = sees-all sight x log fit (is_history sight steps is_turn x log legal)

  pub seat-sees : (x : T) (log : List (Call C R T)) (seat : Seat C R T) → IsFit sight x → Legal steps x log → HoldsSeat log seat → SeesAll sight x (seen seat)
  seat-sees x log seat fit legal holds =
      log-sees x (seen seat) fit (front-legal x (seen seat) holds.0.0 (subst (Legal steps x) holds.0.1 legal))
