-- The rule that every step keeps: the word, the callers, and their parts.
use Rattle.std.specs.Prelude.{◌≡◌, ℕ, zero, suc, ◌+◌, ◌*◌, ◌^◌, ◌<◌, ◌≤◌, ◌⊎◌, List, [], ◌∷◌, length, cond, Some}
use mathlib.Core.Option.{Option as Maybe, some, none}
use lib.ListN.{get_elem?}
use Rattle.atomic_table.specs.Table.{State}
use Rattle.turn_lock.specs.declared.view.Entry.{Entry}
use Rattle.turn_lock.specs.declared.view.View.{View}
use Rattle.turn_lock.specs.declared.view.Slot.{Slot}
use Rattle.turn_lock.specs.declared.view.Slot.TheVariants.{Home}
use Rattle.turn_lock.specs.History.{Legal, end_of, entries_by, BeginsWith, times, AllKept, AllOnce, AllBelow}

module _ {C R T : Type 0} where
  -- the numbers that a view answers for, each with its entries: its own, and those that were joined to it
  abbrev pub accounts : View C R T → List (ℕ × List (Entry C R T))
  accounts v = cond v.named ((v.number, v.mine) ∷ v.joined) v.joined

  -- how often a view answers for the number
  abbrev pub claims : ℕ → View C R T → ℕ
  claims k v = times k (accounts v)

  -- 1 for a view that has the turn, else 0
  abbrev pub turn_of : View C R T → ℕ
  turn_of v = v.turn

  -- a view's parts of the right to close
  abbrev pub parts_of : View C R T → ℕ
  parts_of v = v.parts

  -- f of each view, added up
  abbrev pub total : (View C R T → ℕ) → List (View C R T) → ℕ
  total f [] = 0
  total f (v ∷ vs) = f v + total f vs

  -- each view is so
  abbrev pub Each : (View C R T → Type 0) → List (View C R T) → Type 0
  Each P views = (by : ℕ) (v : View C R T) → get_elem? views by ≡ some v → P v

  -- the object is at home where nobody has the turn
  abbrev pub place : ℕ → T → Maybe (Slot C R T)
  place zero x = some (Home x)
  place (suc n) x = none

  -- a view has seen a beginning of the history, and all of it while it has the turn
  abbrev pub Sees : List (Entry C R T) → View C R T → Type 0
  Sees log v = BeginsWith log v.seen × BeginsWith log v.told × (0 < v.turn → v.seen ≡ log)

-- what a view says of its numbers holds of what it has seen: each stands there once, is one of those that it knows to be given, and has these entries
pub record Sound {C R T : Type 0} (v : View C R T) : Type 0 where
  pub own : AllKept v.seen (accounts v)
  pub once : AllOnce (accounts v)
  pub below : AllBelow v.given (accounts v)

-- The word is twice the number of entries of a legal history, and one more while a view has the turn, which one at most has. The object is at home as the history leaves it, or out with that view
pub record Word {C R T : Type 0} (steps : T → C → R → T → Type 0) (opening : T) (log : List (Entry C R T)) (s : State (Slot C R T) (View C R T)) : Type 0 where
  pub legal : Legal steps opening log
  pub one : total turn_of s.views ≤ 1
  pub word : s.words ≡ (2 * length log + total turn_of s.views) ∷ []
  pub home : s.homes ≡ place (total turn_of s.views) (end_of opening log) ∷ []
  pub seen : Each (Sees log) s.views

-- Numbers are given from 0 on. Each that was given is one view's to answer for, once and with its entries, and no other number has an entry. What a view knows to be given was given, its own numbers among them
pub record Callers {C R T : Type 0} (log : List (Entry C R T)) (views : List (View C R T)) : Type 0 where
  pub given : ℕ
  pub counted : (k : ℕ) → ((k < given) × (total (claims k) views ≡ 1)) ⊎ ((given ≤ k) × (total (claims k) views ≡ 0) × (entries_by k log ≡ []))
  pub kept : Each (λ v. AllKept log (accounts v)) views
  pub known : Each (λ v. (v.given ≤ given) × AllBelow v.given (accounts v)) views

-- the parts add up to 2^64, and a view with none is spent: it answers for no number, and has no turn
pub record Parts {C R T : Type 0} (opening : T) (views : List (View C R T)) : Type 0 where
  pub whole : total parts_of views ≡ 2 ^ 64
  pub alive : Each (λ v. 0 < v.parts → v.opening ≡ Some opening) views
  pub spent : Each (λ v. v.parts ≡ 0 → (v.turn ≡ 0) × (accounts v ≡ [])) views

-- the rule in its three parts
pub record Kept {C R T : Type 0} (steps : T → C → R → T → Type 0) (opening : T) (log : List (Entry C R T)) (s : State (Slot C R T) (View C R T)) : Type 0 where
  pub word : Word steps opening log s
  pub callers : Callers log s.views
  pub parts : Parts opening s.views

module _ {C R T : Type 0} where
  -- there is one history, which keeps the three parts of the rule
  abbrev pub Lawful : (T → C → R → T → Type 0) → T → State (Slot C R T) (View C R T) → Type 0
  Lawful steps opening s = (log : List (Entry C R T)) × Kept steps opening log s
