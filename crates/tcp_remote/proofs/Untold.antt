-- An exchange of a remote that tells its count of faults and nothing else.
use Rattle.std.proofs.Common.{◌+◌, ◌≤◌, ℕ, inl, List, length, Result, Ok, Err, IfOk, refl, sym}
use Rattle.std.proofs.lemmas.List.{take_all}
use Rattle.outside_remote.specs.declared.exchange.Asked.{Asked}
use Rattle.outside_remote.specs.declared.exchange.RemoteFault.{RemoteFault}
use Rattle.outside_remote.specs.declared.exchange.RemoteFault.TheVariants.{Failed, NoMemory}
use Rattle.outside_remote.specs.Exchanges.{HasRemoteCause, IsExchange}
use Rattle.tcp_remote.specs.Counted.{untold}

pub untold_exchange : (asked : Asked) (gave : Result (List ℕ) RemoteFault) (old new : ℕ) → HasRemoteCause old new gave → IfOk gave (λ bytes. length bytes ≤ asked.limit + 1)
    → IsExchange asked gave (untold old) (untold new)
untold_exchange asked (Ok bytes) old new cause fits = record { cause = cause; made = refl; left = (bytes, sym (take_all (asked.limit + 1) bytes fits), refl) }
untold_exchange asked (Err Failed) old new cause fits = record { cause = cause; made = refl; left = refl }
untold_exchange asked (Err NoMemory) old new cause fits = record { cause = cause; made = inl refl; left = refl }
