-- What desks and the cleaner know of the repository whose turns they take.
use Rattle.turn_lock.specs.declared.thing.Thing.{Ghosts}
use Rattle.turn_lock.specs.History.{IsStep}
use Rattle.turn_seats.specs.Seated.{Sight}

-- how its calls and replies are seen, and what one step of it is
pub record Rules (T C R : Type 0) : Type 1 where
  pub sight : Sight T C R
  pub steps : T → C → R → T → Type 0

abbrev pub rules : {T C R : Type 0} → Ghosts T C R → Sight T C R → Rules T C R
rules thing sight = record { sight = sight; steps = IsStep thing.fixed thing.may_ask thing.turned }
