-- What a seat's token knows within a call: without the turn, with it, and with the object's answer; and where a seat is split off or taken in.
use Rattle.std.specs.Prelude.{◌≡◌, ℕ, ◌+◌, ◌*◌, ◌<◌, ◌≤◌, ◌^◌, max, [], ◌∷◌, ◌++◌, length, true, Some}
use Rattle.std.specs.declared.snapshot.Snapshot.{Snapshot}
use Rattle.atomic_table.specs.declared.shared.Seat.{Seat as Token}
use Rattle.turn_lock.specs.declared.view.View.{View}
use Rattle.turn_lock.specs.declared.view.Slot.{Slot}
use Rattle.turn_lock.specs.declared.view.Slot.TheVariants.{Home, Told}
use Rattle.turn_lock.specs.declared.turns.Turns.{Turns}
use Rattle.turn_lock.specs.History.{Legal, end_of, BeginsWith}
use Rattle.turn_lock.specs.declared.seat.SeatToken.{SeatToken as Seat}
use Rattle.turn_lock.specs.Rule.{accounts}
use Rattle.turn_lock.specs.Seats.{opening, number, seen, mine, joined, given, parts_of, IsSeatOf, Same}
use Rattle.turn_lock.specs.Views.{holding}

-- a token of a seat that does not have the turn
pub record IsFree {T C R : Type 0} (turns : Turns T C R) (token : Token (Slot C R T) (View C R T)) : Type 0 where
  pub place : token.table_id ≡ turns.table.shared.table_id
  pub alone : token.me.1 ≡ []
  pub named : token.me.0.named ≡ true
  pub idle : token.me.0.turn ≡ 0
  pub alive : 0 < token.me.0.parts
  pub from : token.me.0.opening ≡ Some (opening turns)

-- the token holds the object as the history that it has seen leaves it
pub record HoldsEnd {T C R : Type 0} (steps : T → C → R → T → Type 0) (turns : Turns T C R) (token : Token (Slot C R T) (View C R T)) : Type 0 where
  pub place : token.table_id ≡ turns.table.shared.table_id
  pub legal : Legal steps (opening turns) token.me.0.seen
  pub thing : token.me.1 ≡ (0, Home (end_of (opening turns) token.me.0.seen)) ∷ []

-- the token that was free has the turn now, at this word, and has seen the history as far as it goes
pub record HasTurn {T C R : Type 0} (steps : T → C → R → T → Type 0) (turns : Turns T C R) (old new : Token (Slot C R T) (View C R T)) (word : ℕ) : Type 0 where
  pub holds : HoldsEnd steps turns new
  pub view : new.me.0 ≡ holding old.me.0 new.me.0.seen
  pub grows : BeginsWith new.me.0.seen old.me.0.seen
  pub double : word ≡ 2 * length new.me.0.seen
  pub room : word < 2 ^ 63

-- the object is at home as the turn left it, and the slot tells what was asked and answered
pub record TookTurn {T C R : Type 0} (steps : T → C → R → T → Type 0) (turns : Turns T C R) (old new : Token (Slot C R T) (View C R T)) (call : C) (reply : R) (told : Slot C R T) : Type 0 where
  pub place : new.table_id ≡ turns.table.shared.table_id
  pub view : new.me.0 ≡ old.me.0
  pub after : T
  pub turn : steps (end_of (opening turns) old.me.0.seen) call reply after
  pub thing : new.me.1 ≡ (0, Home after) ∷ []
  pub asked : Snapshot C
  pub answered : Snapshot R
  pub call_is : asked.value ≡ call
  pub reply_is : answered.value ≡ reply
  pub told_is : told ≡ Told asked answered

-- the seat has taken the token in, and has seen the history as far as it goes
pub record Merged {T C R : Type 0} (steps : T → C → R → T → Type 0) (turns : Turns T C R) (old : Seat C R T) (token : Token (Slot C R T) (View C R T)) (new : Seat C R T) : Type 0 where
  pub seat : IsSeatOf steps turns new
  pub saw : BeginsWith (seen new) (seen old)
  pub saw_other : BeginsWith (seen new) token.me.0.seen
  pub joined_is : joined new ≡ joined old ++ accounts token.me.0
  pub parts_are : parts_of new ≡ parts_of old + token.me.0.parts
  pub given_is : given new ≡ max (given old) token.me.0.given
  pub same_number : number new ≡ number old
  pub same_mine : mine new ≡ mine old

-- A seat was split off with this amount. Its number is none of those that were known to be given
pub record SplitsOff {T C R : Type 0} (steps : T → C → R → T → Type 0) (turns : Turns T C R) (old new made : Seat C R T) (amount : ℕ) : Type 0 where
  pub seat : IsSeatOf steps turns new
  pub same : Same old new
  pub left : parts_of new + amount ≡ parts_of old
  pub other : IsSeatOf steps turns made
  pub parts_are : parts_of made ≡ amount
  pub seen_is : seen made ≡ seen old
  pub mine_is : mine made ≡ []
  pub joined_is : joined made ≡ []
  pub above : given old ≤ number made
  pub next : given new ≡ number made + 1
  pub given_is : given made ≡ given new
