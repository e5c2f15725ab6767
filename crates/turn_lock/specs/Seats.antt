-- What contracts say of turns, seats and notes.
use Rattle.std.specs.Prelude.{◌≡◌, ◌⊎◌, ℕ, ◌+◌, ◌<◌, ◌≤◌, List, [], ◌∷◌, ◌++◌, All, length, sum_by, true, false, Some}
use Rattle.std.specs.List.{flat_map}
use Rattle.turn_lock.specs.declared.view.Entry.{Entry}
use Rattle.turn_lock.specs.declared.turns.Turns.{Turns}
use Rattle.turn_lock.specs.declared.seat.SeatToken.{SeatToken as Seat}
use Rattle.turn_lock.specs.declared.seat.NoteToken.{NoteToken as Note}
use Rattle.turn_lock.specs.History.{Legal, end_of, entries_by, BeginsWith, times, AllKept, AllOnce, AllBelow}

-- the object as the history began
abbrev pub opening : {T C R : Type 0} → Turns T C R → T
opening turns = turns.table.shared.key.value

module _ {C R T : Type 0} where
  -- the seat's own number, which no other seat of these turns has
  abbrev pub number : Seat C R T → ℕ
  number seat = seat.token.me.0.number

  -- the beginning of the history that the seat has seen
  abbrev pub seen : Seat C R T → List (Entry C R T)
  seen seat = seat.token.me.0.seen

  -- the entries of the seat's own calls
  abbrev pub mine : Seat C R T → List (Entry C R T)
  mine seat = seat.token.me.0.mine

  -- the numbers of the seats that were joined to it, each with its entries
  abbrev pub joined : Seat C R T → List (ℕ × List (Entry C R T))
  joined seat = seat.token.me.0.joined

  -- how many numbers were given, as far as the seat knows: they are those below this one
  abbrev pub given : Seat C R T → ℕ
  given seat = seat.token.me.0.given

  -- its parts of the right to close
  abbrev pub parts_of : Seat C R T → ℕ
  parts_of seat = seat.token.me.0.parts

  -- the numbers that the seat answers for, each with its entries: its own first
  abbrev pub callers : Seat C R T → List (ℕ × List (Entry C R T))
  callers seat = (number seat, mine seat) ∷ joined seat

  -- the beginning of the history that a note carries
  abbrev pub carried : Note C R T → List (Entry C R T)
  carried note = note.token.me.0.seen

  -- how many numbers were given, as far as the note's seat knew
  abbrev pub given_before : Note C R T → ℕ
  given_before note = note.token.me.0.given

-- The seat is one of these turns. What it has seen is legal. Each of its callers stands there once, with a number below those that it knows to be given, and has just these entries in what it has seen
pub record IsSeatOf {T C R : Type 0} (steps : T → C → R → T → Type 0) (turns : Turns T C R) (seat : Seat C R T) : Type 0 where
  pub place : seat.token.table_id ≡ turns.table.shared.table_id
  pub alone : seat.token.me.1 ≡ []
  pub named : seat.token.me.0.named ≡ true
  pub idle : seat.token.me.0.turn ≡ 0
  pub alive : 0 < parts_of seat
  pub from : seat.token.me.0.opening ≡ Some (opening turns)
  pub legal : Legal steps (opening turns) (seen seat)
  pub own : AllKept (seen seat) (callers seat)
  pub once : AllOnce (callers seat)
  pub below : AllBelow (given seat) (callers seat)

-- The note is one of these turns, and what it carries is legal
pub record IsNoteOf {T C R : Type 0} (steps : T → C → R → T → Type 0) (turns : Turns T C R) (note : Note C R T) : Type 0 where
  pub place : note.token.table_id ≡ turns.table.shared.table_id
  pub alone : note.token.me.1 ≡ []
  pub unnamed : note.token.me.0.named ≡ false
  pub idle : note.token.me.0.turn ≡ 0
  pub one : note.token.me.0.parts ≡ 1
  pub from : note.token.me.0.opening ≡ Some (opening turns)
  pub empty : note.token.me.0.joined ≡ []
  pub legal : Legal steps (opening turns) (carried note)

module _ {C R T : Type 0} where
  -- the same number, history and entries: only the parts, and what is known of the numbers given, may differ
  abbrev pub Same : Seat C R T → Seat C R T → Type 0
  Same old new = (number new ≡ number old) × (seen new ≡ seen old) × (mine new ≡ mine old) × (joined new ≡ joined old)

  -- a seat of one part, which has seen what this one has seen, and has made no call
  abbrev pub IsFresh : Seat C R T → Seat C R T → Type 0
  IsFresh old new = (parts_of new ≡ 1) × (seen new ≡ seen old) × (mine new ≡ []) × (joined new ≡ [])

  -- each of these seats has a greater number than the ones before it: from the first number on, and below the second
  abbrev pub Rise : ℕ → List (Seat C R T) → ℕ → Type 0
  Rise from [] below = from ≤ below
  Rise from (seat ∷ seats) below = (from ≤ number seat) × Rise (number seat + 1) seats below

  -- the history goes on, and ends with this call; the seat's own entries gain just that
  abbrev pub Gains : Seat C R T → C → R → Seat C R T → Type 0
  Gains old call reply new =
      (between : List (Entry C R T)) × (after : T)
      × (let e : Entry C R T = record { by = number old; call = call; reply = reply; after = after } in
      (seen new ≡ (seen old ++ between) ++ e ∷ []) × (mine new ≡ mine old ++ e ∷ []))

-- all these were joined to the seat, in this order
pub record JoinsAll {C R T : Type 0} (old : Seat C R T) (others : List (Seat C R T)) (new : Seat C R T) : Type 0 where
  pub saw : BeginsWith (seen new) (seen old)
  pub saw_others : All (λ other. BeginsWith (seen new) (seen other)) others
  pub joined_are : joined new ≡ joined old ++ flat_map callers others
  pub parts_are : parts_of new ≡ parts_of old + sum_by parts_of others
  pub given_grows : given old ≤ given new
  pub given_others : All (λ other. given other ≤ given new) others
  pub same_number : number new ≡ number old
  pub same_mine : mine new ≡ mine old

-- The seat has seen the whole history: it is legal, the object is its end, and the number of calls its length. Each entry is of one of the seat's callers, who each stand there once with just their entries
pub record Closes {T C R : Type 0} (steps : T → C → R → T → Type 0) (turns : Turns T C R) (seat : Seat C R T) (thing : T) (calls : ℕ) : Type 0 where
  pub legal : Legal steps (opening turns) (seen seat)
  pub end : thing ≡ end_of (opening turns) (seen seat)
  pub long : calls ≡ length (seen seat)
  pub own : AllKept (seen seat) (callers seat)
  pub others : (k : ℕ) → (times k (callers seat) ≡ 1) ⊎ ((times k (callers seat) ≡ 0) × (entries_by k (seen seat) ≡ []))
