-- When a look at all recorded files fails.
use Rattle.std.specs.Prelude.{◌≡◌, ◌⊎◌, ℕ, Result, Err}
use Rattle.outside.specs.Faults.{Rose}
use Rattle.outside.specs.declared.faults.BlobFault.{BlobFault}
use Rattle.outside.specs.declared.faults.BlobFault.TheVariants as blob
use Rattle.row_tables.specs.declared.faults.LoadFault.{LoadFault}
use Rattle.row_tables.specs.declared.faults.LoadFault.TheVariants as load
use Rattle.row_tables.specs.Records.{Expected}
use Rattle.blob_audit.specs.declared.faults.AuditFault.{AuditFault}
use Rattle.blob_audit.specs.declared.faults.AuditFault.TheVariants.{NoMemory, Store, NotOurs, Row}

-- a fault of the records, and one of the store
abbrev pub load_fault : LoadFault → AuditFault
load_fault load.Failed = Store
load_fault load.NoMemory = NoMemory
load_fault load.NotOurs = NotOurs
load_fault (load.Row frame at) = Row frame at

abbrev pub blob_fault : BlobFault → AuditFault
blob_fault blob.Failed = Store
blob_fault blob.NoMemory = NoMemory

-- the count of the records or of the blobs has risen where one of them failed, and else both stand still
abbrev pub HasAuditCause : {T : Type 0} → (records records' blobs blobs' : ℕ) → Result T AuditFault → Type 0
HasAuditCause records records' blobs blobs' (Err Store) = (Rose records records' × (blobs' ≡ blobs)) ⊎ ((records' ≡ records) × Rose blobs blobs')
HasAuditCause records records' blobs blobs' result = (records' ≡ records) × (blobs' ≡ blobs)

-- what is recorded cannot be read
abbrev pub IsUnread : {T : Type 0} → Result T AuditFault → Type 0
IsUnread (Err NotOurs) = Unit {0}
IsUnread (Err (Row frame at)) = Unit {0}
IsUnread result = ⊥

-- the refusal is the one that a load gives
abbrev pub RefusesAs : {T : Type 0} → Expected → Result T AuditFault → Type 0
RefusesAs expected (Err NotOurs) = expected ≡ Err load.NotOurs
RefusesAs expected (Err (Row frame at)) = expected ≡ Err (load.Row frame at)
RefusesAs expected result = Unit {0}
