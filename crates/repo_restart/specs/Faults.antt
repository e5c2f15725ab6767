-- When a start over recorded files fails.
use Rattle.std.specs.Prelude.{◌≡◌, ℕ, Result, Ok, Err}
use Rattle.outside.specs.Faults.{Rose}
use Rattle.outside.specs.declared.faults.BlobFault.{BlobFault}
use Rattle.outside.specs.declared.faults.BlobFault.TheVariants as blob
use Rattle.blob_audit.specs.declared.damages.Damaged.{Damaged as Damage}
use Rattle.repo_restart.specs.declared.faults.RestoreFault.{RestoreFault}
use Rattle.repo_restart.specs.declared.faults.RestoreFault.TheVariants.{NoMemory, Store, Damaged}

-- a fault of the store
abbrev pub restore_fault : BlobFault → RestoreFault
restore_fault blob.Failed = Store
restore_fault blob.NoMemory = NoMemory

-- the store's count has risen exactly where it failed
abbrev pub HasRestoreCause : {T : Type 0} → ℕ → ℕ → Result T RestoreFault → Type 0
HasRestoreCause before after (Ok value) = after ≡ before
HasRestoreCause before after (Err NoMemory) = after ≡ before
HasRestoreCause before after (Err Store) = Rose before after
HasRestoreCause before after (Err (Damaged damage)) = after ≡ before

-- a fact of the damage, where one is told
abbrev pub OnDamage : {T : Type 0} → Result T RestoreFault → (Damage → Type 0) → Type 0
OnDamage (Ok value) P = Unit {0}
OnDamage (Err NoMemory) P = Unit {0}
OnDamage (Err Store) P = Unit {0}
OnDamage (Err (Damaged damage)) P = P damage
