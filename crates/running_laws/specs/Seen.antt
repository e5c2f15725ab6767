-- What outlasts a crash of calls that lead to what a seat has seen: of a history so far, whether its server ends or not.
use Rattle.std.specs.Prelude.{◌≡◌, List, Some, None}
use Rattle.repo_model.specs.Settings.{Settings}
use Rattle.repo_model.specs.Tables.{Tables}
use Rattle.repo_laws.specs.Holds.{told, with_items}
use Rattle.repo_laws.specs.InRange.{Completes}
use Rattle.row_tables.specs.Crashes.{IsOneOf}
use Rattle.crash_laws.specs.Runs.{FindsAlways}
use Rattle.repo_core.specs.Whole.{Whole}
use Rattle.store_check.specs.Checking.{Recorded}
use Rattle.turn_lock.specs.declared.view.Entry.{Entry as Call}
use Rattle.turn_lock.specs.History.{end_of}
use Rattle.turn_seats.specs.Seated.{Sight}
use Rattle.served_laws.specs.Crashed.{Made, OutlastsCrashes, calls_made, entries_made, left_behind, unsettled_after}

-- What a repository made so far outlasts crashes, from the tables as its start completed them, with nothing pending then. It is in this state now:
-- it tells the tables of all that was made, and a crash now leaves these, or these with the change that is pending.
pub record SoFarOutlasts (settings : Settings) (core : Whole) (before : Tables) (made : List Made) (now : Whole) : Type 0 where
  pub whole : Tables
  pub told_core : core.tables ≡ Some whole
  pub completes : Completes before whole
  pub settled : core.unsettled.pending ≡ None
  pub outlasts : OutlastsCrashes settings core.state whole core.unsettled made
  pub told_now : now.tables ≡ Some (with_items whole (told settings core.state (entries_made made)))
  pub unsettled_now : now.unsettled ≡ unsettled_after core.unsettled made
  pub found_now : FindsAlways (λ u. IsOneOf u (left_behind settings core.state whole core.unsettled made)) now.unsettled.trace now.unsettled.trace

-- so do these calls of a repository that was opened over records which told their tables
abbrev pub CallsOutlast : {C R : Type 0} → Sight Whole C R → Settings → Recorded → Whole → List (Call C R Whole) → Type 0
CallsOutlast sight settings records core log =
    (before : Tables) → records.tables ≡ Some before → SoFarOutlasts settings core before (calls_made sight log) (end_of core log)
