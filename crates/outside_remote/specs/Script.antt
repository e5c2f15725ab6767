-- A remote in memory.
use Rattle.std.specs.Prelude.{◌≡◌, ◌⊎◌, ℕ, ◌+◌, min, List, [], ◌∷◌, ◌++◌, drop, length, take, Some, Contains, Result, Ok, Err}
use Rattle.outside.specs.Faults.{last_count}
use Rattle.outside_remote.specs.declared.exchange.Asked.{Asked}
use Rattle.outside_remote.specs.declared.exchange.Exchange.{Exchange}
use Rattle.outside_remote.specs.declared.exchange.RemoteFault.{RemoteFault}
use Rattle.outside_remote.specs.declared.exchange.RemoteFault.TheVariants.{Failed, NoMemory}
use Rattle.outside_remote.specs.Exchanges.{Sees, exchanged}

-- the answers left, the numbers of the exchanges that fail, the exchanges made, and how many have failed
pub record ScriptState : Type 0 where
  pub left : List (List ℕ)
  pub failing : List ℕ
  pub made : List Exchange
  pub faults : ℕ

-- it tells all
abbrev pub all_told : ScriptState → Sees
all_told s = record { left = Some s.left; made = Some s.made; faults = s.faults }

-- the next exchange fails: its number is named, or no answer is left
abbrev pub IsFailing : ScriptState → Type 0
IsFailing s = Contains s.failing (length s.made) ⊎ (s.left ≡ [])

-- the bytes are the first answer's, up to one more than are wanted
abbrev pub IsFirst : ℕ → List ℕ → List (List ℕ) → Type 0
IsFirst limit bytes left = (whole : List ℕ) × (bytes ≡ take (limit + 1) whole) × (left ≡ whole ∷ drop 1 left)

-- the exchange is added, and an answer that was given is no longer left
abbrev pub with_exchange : Asked → Result (List ℕ) RemoteFault → ScriptState → ScriptState
with_exchange asked (Ok bytes) s = record s { left = drop 1 s.left; made = s.made ++ exchanged asked (Ok bytes) ∷ [] }
with_exchange asked (Err Failed) s = record s { made = s.made ++ exchanged asked (Err Failed) ∷ []; faults = min (s.faults + 1) last_count }
with_exchange asked (Err NoMemory) s = s
