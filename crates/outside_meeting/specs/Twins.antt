-- Twins over one store of blobs in memory.
use Rattle.std.specs.Prelude.{ℕ, Bool}

-- a twin: whether it is still to meet the others, and how many of its calls have failed
pub record Twin : Type 0 where
  pub is_to_meet : Bool
  pub faults : ℕ
