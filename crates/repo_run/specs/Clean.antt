-- A cleaning: settings are read, a repository of these is opened over what is recorded and stored, and one pass goes over it.
use Rattle.std.specs.Prelude.{◌≡◌, ◌⊎◌, ℕ, List, Result, Ok, Err}
use Rattle.repo_model.specs.History.{Entry}
use Rattle.repo_model.specs.Settings.{Settings}
use Rattle.repo_core.specs.Whole.{Whole}
use Rattle.repo_core.specs.declared.faults.StartFault.{StartFault}
use Rattle.repo_course.specs.Answers.{cleaned_text}
use Rattle.repo_course.specs.Cleaning.{PassesAll, Store}
use Rattle.repo_course.specs.declared.outcomes.CleanFault.{CleanFault}
use Rattle.repo_course.specs.declared.outcomes.CleanFault.TheVariants.{StoreFault, BlobFault, NoMemory}
use Rattle.repo_course.specs.declared.outcomes.Cleaned.{Cleaned}
use Rattle.blob_audit.specs.declared.faults.AuditFault.TheVariants as audit
use Rattle.run_lines.specs.Lines.{memory_line}
use Rattle.run_lines.specs.Printing.{Output, Prints, PrintsPart, PrintsWhole}
use Rattle.run_lines.specs.Reading.{Reads}
use Rattle.store_check.specs.Checking.{RefusesStore}
use Rattle.repo_run.specs.Begun.{Begins, HoldsRecords, LeavesRecords, RefusesStart, StartFails}
use Rattle.repo_run.specs.FirstConnection.{Makes}
use Rattle.repo_run.specs.Surroundings.{View}

-- how many rows were unlisted and how many blobs removed, in two lines, or a front of these, or there was no memory for them; or
-- why the pass was not made to its end: the records or the store failed, or memory ran out
abbrev pub TellsPass : Result Cleaned CleanFault → Output → Output → ℕ → Type 0
TellsPass (Ok cleaned) old new status =
    (PrintsWhole (cleaned_text cleaned.unlisted cleaned.removed) old new × (status ≡ 0))
    ⊎ (PrintsPart (cleaned_text cleaned.unlisted cleaned.removed) old new × (status ≡ 7))
    ⊎ (Prints memory_line old new × (status ≡ 8))
TellsPass (Err StoreFault) old new status = RefusesStore audit.Store old new status
TellsPass (Err BlobFault) old new status = RefusesStore audit.Store old new status
TellsPass (Err NoMemory) old new status = RefusesStore audit.NoMemory old new status

-- A repository of these settings is cleaned, and lines tell it; the store is the cleaner's. The entries are those of one pass,
-- each once, in order and no other; they are a legal history of the repository, as those of a replay.
pub data Cleans (settings : Settings) (old new : View Store) (status : ℕ) : Type 0 where
  not_started : (fault : StartFault) → StartFails old.records new.records old.place new.place fault → new.clock ≡ old.clock → RefusesStart fault old.out new.out status
      → Cleans settings old new status
  passed : (begun core : Whole) (cleared : Store) (entries : List Entry) (result : Result Cleaned CleanFault) → Begins settings old.records old.place cleared old.clock begun
      → Makes begun entries core → PassesAll settings entries cleared new.place result → HoldsRecords core new.records → new.clock ≡ core.state.clock
      → TellsPass result old.out new.out status → Cleans settings old new status

-- A cleaning, by what comes of reading its settings: there are none, or they are cleaned by.
pub data CleansBy (old new : View Store) (status : ℕ) : Type 0 where
  refused : Reads old.source new.source old.out new.out (Err status) → new.place ≡ old.place → LeavesRecords old.records new.records → new.clock ≡ old.clock → CleansBy old new status
  accepted : (settings : Settings) → Reads old.source new.source old.out old.out (Ok settings) → Cleans settings old new status → CleansBy old new status
