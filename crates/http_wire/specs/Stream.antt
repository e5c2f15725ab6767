-- What the calls over a stream of bytes say: the bytes not used yet, and the faults of its source.
use Rattle.std.specs.Prelude.{◌≡◌, ◌≢◌, ℕ, List, Option, Result, Err, IfSome}
use Rattle.outside.specs.Faults.{Rose}
use Rattle.outside.specs.Told.{in_front}
use Rattle.http_wire.specs.declared.faults.WireFault.{WireFault}
use Rattle.http_wire.specs.declared.faults.WireFault.TheVariants.{SourceFault}
use Rattle.http_wire.specs.Front.{Front, Whole, front}
use Rattle.http_wire.specs.Head.{Head}

-- the bytes not used yet: those that the wire holds, and those that the source tells to be left
abbrev pub unread : List ℕ → Option (List ℕ) → Option (List ℕ)
unread held left = in_front held left

-- a stream that tells its bytes begins with this
abbrev pub BeginsWith : Option (List ℕ) → Front → Type 0
BeginsWith bytes what = IfSome bytes (λ all. front all ≡ what)

-- a call that fails by its source has raised the count of faults, and any other leaves it
pub record CountsFaults {T : Type 0} (faults_before faults_after : ℕ) (result : Result T WireFault) : Type 0 where
  pub raised : result ≡ Err SourceFault → Rose faults_before faults_after
  pub kept : result ≢ Err SourceFault → faults_after ≡ faults_before

-- where the stream tells its bytes, they begin with a whole head
abbrev pub BeginsWithHead : Option (List ℕ) → Type 0
BeginsWithHead bytes = IfSome bytes (λ all. (head : Head) × (rest : List ℕ) × (front all ≡ Whole head rest))
