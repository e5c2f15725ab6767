-- A check whose look at the recorded files failed.
use Rattle.std.proofs.Common.{◌≡◌, ℕ, None, Err}
use Rattle.std.specs.Prelude.{IfSome}
use Rattle.outside.specs.Blobs.{Shelf}
use Rattle.blob_audit.specs.Faults.{HasAuditCause, IsUnread, RefusesAs}
use Rattle.blob_audit.specs.declared.damages.Audit.{Audit}
use Rattle.blob_audit.specs.declared.faults.AuditFault.{AuditFault}
use Rattle.blob_audit.specs.declared.faults.AuditFault.TheVariants.{NoMemory, Store, NotOurs, Row}
use Rattle.run_lines.specs.Printing.{Output}
use Rattle.store_check.specs.Checking.{Checks, Recorded, RefusesStore, failed, not_ours, starved, unread}

pub refused : (records : Recorded) (faults : ℕ) (shelf : Shelf) (blobs blobs' : ℕ) (out out' : Output) (status : ℕ) (refusal : AuditFault)
    → HasAuditCause {T = Audit} records.faults faults blobs blobs' (Err refusal) → (IsUnread {T = Audit} (Err refusal) → records.tables ≡ None)
    → IfSome records.loading (λ told. RefusesAs {T = Audit} told (Err refusal)) → RefusesStore refusal out out' status
    → Checks records faults shelf blobs blobs' out out' status
refused records faults shelf blobs blobs' out out' status NoMemory cause none loads told = starved cause.0 cause.1 told
refused records faults shelf blobs blobs' out out' status Store cause none loads told = failed cause told
refused records faults shelf blobs blobs' out out' status NotOurs cause none loads told = not_ours (none tt) loads cause.0 cause.1 told
refused records faults shelf blobs blobs' out out' status (Row frame at) cause none loads told =
    unread frame at (none tt) loads cause.0 cause.1 told
