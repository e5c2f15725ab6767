-- The repository of a run: opened over what is recorded and stored, or not.
use Rattle.std.specs.Prelude.{◌≡◌, ◌⊎◌, ℕ, [], Option, Some, None, IfSome}
use Rattle.std.specs.Option.{option_map}
use Rattle.outside.specs.Moments.{Moments}
use Rattle.repo_config.specs.Form.{IsSettings}
use Rattle.repo_model.specs.Restart.{blobs_named}
use Rattle.repo_model.specs.Settings.{Settings}
use Rattle.repo_model.specs.State.{opening}
use Rattle.repo_model.specs.Tables.{Tables, no_tables}
use Rattle.blob_audit.specs.Order.{all_rows}
use Rattle.blob_audit.specs.declared.faults.AuditFault.TheVariants as audit
use Rattle.repo_restart.specs.Leftovers.{ClearsFront}
use Rattle.blob_audit.specs.Damages.{IsFirstDamaged}
use Rattle.row_completion.specs.Completion.{IsDigested, IsDigestedWhereTold}
use Rattle.row_tables.specs.Crashes.{Rests}
use Rattle.repo_core.specs.Start.{AreCompleted, AreLoaded, Starts}
use Rattle.repo_core.specs.StartFaults.{HasStartCause, IsUnread, OnDamage, RefusesAs}
use Rattle.repo_core.specs.Whole.{Whole, counting}
use Rattle.repo_core.specs.declared.faults.StartFault.{StartFault}
use Rattle.repo_core.specs.declared.faults.StartFault.TheVariants.{NoMemory, Store, NotOurs, Row, Damaged}
use Rattle.repo_course.specs.Cleaning as cleaning
use Rattle.run_lines.specs.Printing.{Output}
use Rattle.store_check.specs.Checking.{Recorded, RefusesDamaged, RefusesStore}

-- The repository of these settings, which have their form, before its first call, over what is recorded and stored. A start gives the
-- recorded rows the further digests that they lack, of the contents that it finds, and leaves the records' tables as they are else; it
-- removes of the store exactly what no row names. No change whose commit failed is pending then, and a crash leaves the tables. Where
-- nothing is recorded or stored, it is the repository that was never asked.
pub record Begins (settings : Settings) (records : Recorded) (old new : cleaning.Store) (clock : Option Moments) (core : Whole) : Type 0 where
  pub form : IsSettings settings
  pub tables : Tables
  pub completed : AreCompleted records.tables records.loading old.shelf tables
  pub starts : Starts settings tables old.shelf new.shelf clock records.faults core.state
  pub settings_are : core.settings ≡ settings
  pub tables_are : core.tables ≡ option_map (λ (t : Tables). tables) records.tables
  pub digested : IsDigestedWhereTold old.shelf records.tables core.tables
  pub calls_are : core.calls ≡ 0
  pub settled : core.unsettled.pending ≡ None
  pub rests : Rests core.tables core.unsettled
  pub still : new.faults ≡ old.faults
  pub opens : IfSome records.tables (λ t. t ≡ no_tables → IfSome old.shelf.blobs (λ them. them ≡ [] → core.state ≡ counting records.faults (opening settings clock)))

-- A repository was not opened: the records or the store failed, which one of their counts tells, or these stand still and the
-- records are refused, as a load is told to refuse them, or a file is damaged, the first one, or memory runs out. Some recorded rows
-- that lacked their further digests may have been given them.
pub record StartFails (records records' : Recorded) (old new : cleaning.Store) (fault : StartFault) : Type 0 where
  pub cause : HasStartCause records.faults records'.faults old.faults new.faults fault
  pub tables : IsDigestedWhereTold old.shelf records.tables records'.tables
  pub refused : IfSome records.loading (λ expected. RefusesAs expected fault)
  pub unread : IsUnread fault → records.tables ≡ None
  pub damaged : OnDamage fault (λ damage. (loaded t : Tables) × AreLoaded records.tables records.loading loaded × IsDigested old.shelf loaded t × IsFirstDamaged old.shelf (all_rows t) damage
      × (new.shelf ≡ old.shelf))
  -- what is left of the store: all of it, or it lacks the first ones of the blobs that no row names
  pub shelf : (new.shelf ≡ old.shelf) ⊎ ((t : Tables) × AreLoaded records.tables records.loading t × ClearsFront (blobs_named t) old.shelf new.shelf)

-- why a repository was not opened, and the status that tells it
abbrev pub RefusesStart : StartFault → Output → Output → ℕ → Type 0
RefusesStart NoMemory old new status = RefusesStore audit.NoMemory old new status
RefusesStart Store old new status = RefusesStore audit.Store old new status
RefusesStart NotOurs old new status = RefusesStore audit.NotOurs old new status
RefusesStart (Row frame at) old new status = RefusesStore (audit.Row frame at) old new status
RefusesStart (Damaged damage) old new status = RefusesDamaged damage old new status

-- the records tell the same tables, and none of their calls failed
abbrev pub LeavesRecords : Recorded → Recorded → Type 0
LeavesRecords old new = (new.tables ≡ old.tables) × (new.faults ≡ old.faults)

-- the records hold what a repository has recorded with them, have failed as often as it says, and are as unsettled as it says: a crash
-- leaves the tables, or these with the change whose commit failed
abbrev pub HoldsRecords : Whole → Recorded → Type 0
HoldsRecords core records =
    (records.tables ≡ core.tables) × (records.faults ≡ core.state.faults) × (records.unsettled ≡ core.unsettled)
    × Rests core.tables core.unsettled

-- nothing is recorded or stored yet, as the records and the store tell, and no call of the records failed before or after
pub record IsFresh (records records' : Recorded) (blobs : cleaning.Store) : Type 0 where
  pub no_tables : records.tables ≡ Some no_tables
  pub unfailed : records.faults ≡ 0
  pub stood : records'.faults ≡ 0
  pub no_blobs : blobs.shelf.blobs ≡ Some []
