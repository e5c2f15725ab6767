-- When a start fails.
use Rattle.std.specs.Prelude.{◌≡◌, ◌⊎◌, ℕ, Ok, Err}
use Rattle.outside.specs.Faults.{Rose}
use Rattle.blob_audit.specs.declared.damages.Damaged.{Damaged as Damage}
use Rattle.repo_model.specs.Tables.{Tables}
use Rattle.repo_restart.specs.declared.faults.RestoreFault.{RestoreFault}
use Rattle.repo_restart.specs.declared.faults.RestoreFault.TheVariants as restore
use Rattle.row_completion.specs.declared.faults.CompletionFault.{CompletionFault}
use Rattle.row_completion.specs.declared.faults.CompletionFault.TheVariants as complete
use Rattle.row_tables.specs.Records.{Expected}
use Rattle.row_tables.specs.declared.faults.LoadFault.{LoadFault}
use Rattle.row_tables.specs.declared.faults.LoadFault.TheVariants as load
use Rattle.repo_core.specs.declared.faults.StartFault.{StartFault}
use Rattle.repo_core.specs.declared.faults.StartFault.TheVariants.{NoMemory, Store, NotOurs, Row, Damaged}

-- a fault of the records, and faults of the recorded files
abbrev pub load_fault : LoadFault → StartFault
load_fault load.Failed = Store
load_fault load.NoMemory = NoMemory
load_fault load.NotOurs = NotOurs
load_fault (load.Row frame at) = Row frame at

abbrev pub restore_fault : RestoreFault → StartFault
restore_fault restore.NoMemory = NoMemory
restore_fault restore.Store = Store
restore_fault (restore.Damaged damage) = Damaged damage

abbrev pub completion_fault : CompletionFault → StartFault
completion_fault complete.NoMemory = NoMemory
completion_fault complete.Store = Store
completion_fault (complete.Damaged damage) = Damaged damage

-- the count of the records or of the blobs has risen where one of them failed, and else both stand still
abbrev pub HasStartCause : (records records' blobs blobs' : ℕ) → StartFault → Type 0
HasStartCause records records' blobs blobs' Store = (Rose records records' × (blobs' ≡ blobs)) ⊎ ((records' ≡ records) × Rose blobs blobs')
HasStartCause records records' blobs blobs' fault = (records' ≡ records) × (blobs' ≡ blobs)

-- what is expected of a load: its tables, unless these are refused; a start fails otherwise, or runs out of memory
abbrev pub RefusesAs : Expected → StartFault → Type 0
RefusesAs expected NoMemory = Unit {0}
RefusesAs expected Store = Unit {0}
RefusesAs expected NotOurs = expected ≡ Err load.NotOurs
RefusesAs expected (Row frame at) = expected ≡ Err (load.Row frame at)
RefusesAs expected (Damaged damage) = (t : Tables) × (expected ≡ Ok t)

-- what is recorded cannot be read
abbrev pub IsUnread : StartFault → Type 0
IsUnread NotOurs = Unit {0}
IsUnread (Row frame at) = Unit {0}
IsUnread fault = ⊥

-- a fact of the damage, where that is the fault
abbrev pub OnDamage : StartFault → (Damage → Type 0) → Type 0
OnDamage (Damaged damage) P = P damage
OnDamage fault P = Unit {0}
