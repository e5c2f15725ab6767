-- What each step makes of what a seat knows, its view.
use Rattle.std.specs.Prelude.{ℕ, ◌+◌, ◌-◌, ◌^◌, List, [], ◌∷◌, ◌++◌, true, false, Some, None, max}
use Rattle.turn_lock.specs.declared.view.Entry.{Entry}
use Rattle.turn_lock.specs.declared.view.View.{View}
use Rattle.turn_lock.specs.Rule.{accounts}

module _ {C R T : Type 0} where
  -- the seat with all parts, as the history begins
  abbrev pub first_view : T → View C R T
  first_view x = record { opening = Some x; named = true; number = 0; turn = 0; seen = []; told = []; mine = []; joined = []; given = 1; parts = 2 ^ 64 }

  -- the same view, which has seen these entries
  abbrev pub looked : View C R T → List (Entry C R T) → View C R T
  looked v log = record v { seen = log }

  -- the turn is taken, and these entries have been seen
  abbrev pub holding : View C R T → List (Entry C R T) → View C R T
  holding v log = record v { turn = 1; seen = log }

  -- the turn is given back with an entry
  abbrev pub gave : View C R T → Entry C R T → View C R T
  gave v e = record v { turn = 0; seen = v.seen ++ e ∷ []; mine = v.mine ++ e ∷ [] }

  -- a number is drawn for the seat that is split off next
  abbrev pub drawn : View C R T → ℕ → View C R T
  drawn v k = record v { joined = (k, []) ∷ v.joined; given = k + 1 }

  -- the number that was drawn, and the accounts without it
  abbrev pub drawn_number : List (ℕ × List (Entry C R T)) → ℕ
  drawn_number [] = 0
  drawn_number (p ∷ ps) = p.0

  abbrev pub undrawn : List (ℕ × List (Entry C R T)) → List (ℕ × List (Entry C R T))
  undrawn [] = []
  undrawn (p ∷ ps) = ps

  -- what is left where a seat is split off with these parts and the number that was drawn, and the new seat
  abbrev pub without : ℕ → View C R T → View C R T
  without amount v = record v { joined = undrawn v.joined; parts = v.parts - amount }

  abbrev pub offshoot : ℕ → View C R T → View C R T
  offshoot amount v = record { opening = v.opening; named = true; number = drawn_number v.joined; turn = 0; seen = v.seen; told = []; mine = []; joined = []; given = v.given; parts = amount }

  -- what is left where a note is split off, and the note, which has one part and no number
  abbrev pub noted : View C R T → View C R T
  noted v = record v { parts = v.parts - 1 }

  abbrev pub slip : View C R T → View C R T
  slip v = record { opening = v.opening; named = false; number = 0; turn = 0; seen = v.seen; told = []; mine = []; joined = []; given = v.given; parts = 1 }

  -- the first takes in the second, which is spent
  abbrev pub both : View C R T → View C R T → View C R T
  both v w = record v { told = w.seen; joined = v.joined ++ accounts w; given = max v.given w.given; parts = v.parts + w.parts }

  abbrev pub spent : View C R T
  spent = record { opening = None; named = false; number = 0; turn = 0; seen = []; told = []; mine = []; joined = []; given = 0; parts = 0 }
