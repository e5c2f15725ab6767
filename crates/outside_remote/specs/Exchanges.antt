-- Exchanges with a remote: what is asked, what it gives, and what a remote tells of itself.
use Rattle.std.specs.Prelude.{◌≡◌, ◌⊎◌, ℕ, ◌+◌, List, [], ◌∷◌, take, Option, Result, Ok, Err}
use Rattle.outside.specs.Faults.{Rose}
use Rattle.outside.specs.Told.{in_front, behind}
use Rattle.outside_remote.specs.declared.exchange.Asked.{Asked}
use Rattle.outside_remote.specs.declared.exchange.Exchange.{Exchange}
use Rattle.outside_remote.specs.declared.exchange.RemoteFault.{RemoteFault}
use Rattle.outside_remote.specs.declared.exchange.RemoteFault.TheVariants.{Failed, NoMemory}

-- the answers that a remote has left and the exchanges that were made, where it tells them, and how many have failed
pub record Sees : Type 0 where
  pub left : Option (List (List ℕ))
  pub made : Option (List Exchange)
  pub faults : ℕ

abbrev pub asked_so : List ℕ → ℕ → List ℕ → ℕ → Asked
asked_so host port request limit = record { host = host; port = port; request = request; limit = limit }

abbrev pub exchanged : Asked → Result (List ℕ) RemoteFault → Exchange
exchanged asked gave = record { asked = asked; gave = gave }

-- an exchange that failed has raised the count of faults, and any other leaves it
abbrev pub HasRemoteCause : ℕ → ℕ → Result (List ℕ) RemoteFault → Type 0
HasRemoteCause before after (Ok bytes) = after ≡ before
HasRemoteCause before after (Err NoMemory) = after ≡ before
HasRemoteCause before after (Err Failed) = Rose before after

-- the exchange is one of those made; when memory ran out it may not have been
abbrev pub AddsExchange : Asked → Result (List ℕ) RemoteFault → Option (List Exchange) → Option (List Exchange) → Type 0
AddsExchange asked (Ok bytes) old new = new ≡ behind old (exchanged asked (Ok bytes) ∷ [])
AddsExchange asked (Err Failed) old new = new ≡ behind old (exchanged asked (Err Failed) ∷ [])
AddsExchange asked (Err NoMemory) old new = (new ≡ old) ⊎ (new ≡ behind old (exchanged asked (Err NoMemory) ∷ []))

-- what is given is the next answer left, up to one byte more than is wanted
abbrev pub GivesNext : ℕ → Result (List ℕ) RemoteFault → Option (List (List ℕ)) → Option (List (List ℕ)) → Type 0
GivesNext limit (Ok bytes) old new = (whole : List ℕ) × (bytes ≡ take (limit + 1) whole) × (old ≡ in_front (whole ∷ []) new)
GivesNext limit (Err fault) old new = new ≡ old

pub record IsExchange (asked : Asked) (gave : Result (List ℕ) RemoteFault) (old new : Sees) : Type 0 where
  pub cause : HasRemoteCause old.faults new.faults gave
  pub made : AddsExchange asked gave old.made new.made
  pub left : GivesNext asked.limit gave old.left new.left
