-- A check: every recorded file is looked at, and lines and a status tell which of them are not as they were recorded.
use Rattle.std.specs.Prelude.{◌≡◌, ◌⊎◌, ℕ, List, [], ◌∷◌, length, Option, None, IfSome, Ok, Err}
use Rattle.outside.specs.Blobs.{Shelf}
use Rattle.outside.specs.Faults.{Rose}
use Rattle.repo_model.specs.Settings.{Settings}
use Rattle.repo_model.specs.Tables.{Tables}
use Rattle.row_tables.specs.Recorded.{IsBuiltUp}
use Rattle.row_tables.specs.Records.{Expected}
use Rattle.row_tables.specs.Crashes.{Unsettled}
use Rattle.row_tables.specs.declared.faults.LoadFault.TheVariants as load
use Rattle.blob_audit.specs.Damages.{AreDamaged}
use Rattle.blob_audit.specs.Order.{all_rows}
use Rattle.blob_audit.specs.declared.damages.Damaged.{Damaged}
use Rattle.blob_audit.specs.declared.faults.AuditFault.{AuditFault}
use Rattle.blob_audit.specs.declared.faults.AuditFault.TheVariants.{NoMemory, Store, NotOurs, Row}
use Rattle.run_lines.specs.Lines.{memory_line}
use Rattle.run_lines.specs.Printing.{Output, Prints, PrintsPart, PrintsWhole}
use Rattle.run_lines.specs.Reading.{File, Reads}
use Rattle.store_check.specs.Lines.{not_ours_line, report_text, row_line, stopped_line, store_line}

-- what records tell of themselves: what is recorded, what a load gives, their count of faults, and what a crash may leave of them
-- beside the tables
pub record Recorded : Type 0 where
  pub tables : Option Tables
  pub loading : Option Expected
  pub faults : ℕ
  pub unsettled : Unsettled

abbrev pub records_told : Option Tables → Option Expected → ℕ → Unsettled → Recorded
records_told tables loading faults unsettled = record { tables = tables; loading = loading; faults = faults; unsettled = unsettled }

-- the status that tells whether a file was named
abbrev pub status_of : List Damaged → ℕ
status_of [] = 0
status_of (d ∷ ds) = 9

-- the lines of these damaged files are printed, or a front of them, or there was no memory for them
abbrev pub Reports : List Damaged → ℕ → Output → Output → ℕ → Type 0
Reports damages looked old new status =
    (PrintsWhole (report_text damages looked) old new × (status ≡ status_of damages))
    ⊎ (PrintsPart (report_text damages looked) old new × (status ≡ 7))
    ⊎ (Prints memory_line old new × (status ≡ 8))

-- why the recorded files could not be looked at; for the line of a frame memory may be wanting
abbrev pub RefusesStore : AuditFault → Output → Output → ℕ → Type 0
RefusesStore NoMemory old new status = Prints memory_line old new × (status ≡ 8)
RefusesStore Store old new status = Prints store_line old new × (status ≡ 4)
RefusesStore NotOurs old new status = Prints not_ours_line old new × (status ≡ 4)
RefusesStore (Row frame at) old new status =
    (Prints (row_line frame at) old new × (status ≡ 4)) ⊎ (Prints memory_line old new × (status ≡ 8))

-- which damaged file keeps a repository from being opened; for its line memory may be wanting
abbrev pub RefusesDamaged : Damaged → Output → Output → ℕ → Type 0
RefusesDamaged damaged old new status =
    (Prints (stopped_line damaged) old new × (status ≡ 5)) ⊎ (Prints memory_line old new × (status ≡ 8))

-- A check by what comes of it. The files are looked at, of tables that are those which the records tell; the records or the
-- store fail, which one of their counts tells; the records are refused, as a load of them is told to be; memory runs out.
-- In all cases but the second both counts stand still.
pub data Checks (records : Recorded) (records_faults : ℕ) (shelf : Shelf) (blobs blobs' : ℕ) (out out' : Output) (status : ℕ) : Type 0 where
  looked : (t : Tables) (damages : List Damaged) → IsBuiltUp t → IfSome records.tables (λ told. t ≡ told) → IfSome records.loading (λ told. told ≡ Ok t)
      → AreDamaged shelf (all_rows t) damages → records_faults ≡ records.faults → blobs' ≡ blobs
      → Reports damages (length (all_rows t)) out out' status → Checks records records_faults shelf blobs blobs' out out' status
  failed : (Rose records.faults records_faults × (blobs' ≡ blobs)) ⊎ ((records_faults ≡ records.faults) × Rose blobs blobs')
      → RefusesStore Store out out' status → Checks records records_faults shelf blobs blobs' out out' status
  not_ours : records.tables ≡ None → IfSome records.loading (λ told. told ≡ Err load.NotOurs) → records_faults ≡ records.faults → blobs' ≡ blobs
      → RefusesStore NotOurs out out' status → Checks records records_faults shelf blobs blobs' out out' status
  unread : (frame at : ℕ) → records.tables ≡ None → IfSome records.loading (λ told. told ≡ Err (load.Row frame at)) → records_faults ≡ records.faults
      → blobs' ≡ blobs → RefusesStore (Row frame at) out out' status → Checks records records_faults shelf blobs blobs' out out' status
  starved : records_faults ≡ records.faults → blobs' ≡ blobs → RefusesStore NoMemory out out' status
      → Checks records records_faults shelf blobs blobs' out out' status

-- A check by settings: they are read and say nothing of what is looked at, or nothing is looked at.
pub data ChecksBy (source source' : File) (records : Recorded) (records_faults : ℕ) (shelf : Shelf) (blobs blobs' : ℕ) (out out' : Output) (status : ℕ) : Type 0 where
  refused : Reads source source' out out' (Err status) → records_faults ≡ records.faults → blobs' ≡ blobs
      → ChecksBy source source' records records_faults shelf blobs blobs' out out' status
  accepted : (settings : Settings) → Reads source source' out out (Ok settings) → Checks records records_faults shelf blobs blobs' out out' status
      → ChecksBy source source' records records_faults shelf blobs blobs' out out' status
