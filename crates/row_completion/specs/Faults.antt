-- When recorded files are not completed.
use Rattle.std.specs.Prelude.{◌≡◌, ◌⊎◌, ℕ, Result, Ok, Err}
use Rattle.outside.specs.Faults.{Rose}
use Rattle.outside.specs.declared.faults.BlobFault.{BlobFault}
use Rattle.outside.specs.declared.faults.BlobFault.TheVariants as blob
use Rattle.blob_audit.specs.declared.damages.Damaged.{Damaged as Damage}
use Rattle.row_completion.specs.declared.faults.CompletionFault.{CompletionFault}
use Rattle.row_completion.specs.declared.faults.CompletionFault.TheVariants.{NoMemory, Store, Damaged}

-- a fault of the store
abbrev pub blob_fault : BlobFault → CompletionFault
blob_fault blob.Failed = Store
blob_fault blob.NoMemory = NoMemory

-- the store's count has risen exactly where it failed
abbrev pub HasFindCause : {T : Type 0} → ℕ → ℕ → Result T CompletionFault → Type 0
HasFindCause before after (Ok value) = after ≡ before
HasFindCause before after (Err NoMemory) = after ≡ before
HasFindCause before after (Err Store) = Rose before after
HasFindCause before after (Err (Damaged damage)) = after ≡ before

-- the count of the records or of the store has risen where one of them failed, and else both stand still
abbrev pub HasCompletionCause : {T : Type 0} → (records records' blobs blobs' : ℕ) → Result T CompletionFault → Type 0
HasCompletionCause records records' blobs blobs' (Ok value) = (records' ≡ records) × (blobs' ≡ blobs)
HasCompletionCause records records' blobs blobs' (Err NoMemory) = (records' ≡ records) × (blobs' ≡ blobs)
HasCompletionCause records records' blobs blobs' (Err Store) = (Rose records records' × (blobs' ≡ blobs)) ⊎ ((records' ≡ records) × Rose blobs blobs')
HasCompletionCause records records' blobs blobs' (Err (Damaged damage)) = (records' ≡ records) × (blobs' ≡ blobs)

-- a fact of the damage, where one is told
abbrev pub OnDamage : {T : Type 0} → Result T CompletionFault → (Damage → Type 0) → Type 0
OnDamage (Ok value) P = Unit {0}
OnDamage (Err NoMemory) P = Unit {0}
OnDamage (Err Store) P = Unit {0}
OnDamage (Err (Damaged damage)) P = P damage
