-- What documents named before a crash, and what later runs show of it.
use Rattle.std.specs.Prelude.{◌≡◌, List, [], ◌∷◌, ◌++◌, Some, None}
use Rattle.repo_model.specs.History.{Entry, Legal, end}
use Rattle.repo_model.specs.Settings.{Settings}
use Rattle.repo_model.specs.State.{State}
use Rattle.repo_model.specs.Tables.{Tables}
use Rattle.repo_laws.specs.InRange.{Follow, Run}
use Rattle.crash_laws.specs.Crashes.{IsFrontOf}
use Rattle.crash_laws.specs.Runs.{FindsAlways}
use Rattle.repo_core.specs.Whole.{Whole}
use Rattle.repo_course.specs.Serving.{Outside, RequestTurn}
use Rattle.closed_laws.specs.Streams.{Seen}
use Rattle.store_check.specs.Checking.{Recorded}
use Rattle.turn_lock.specs.declared.view.Entry.{Entry as Call}
use Rattle.turn_lock.specs.History.{end_of}
use Rattle.turn_seats.specs.Seated.{Sight}
use Rattle.served_laws.specs.Crashed.{calls_made, entries_made}
use Rattle.served_laws.specs.Restarted.{ShowsWhatWasNamedIn}

-- In runs that follow one another from these tables, none earlier than this history ended: each turn of a later one whose first entry looks at a file
-- that a document of the history named, in time, shows it.
abbrev pub LaterShow : Type 0 → Settings → State → List Entry → Tables → Type 0
LaterShow tells settings start history u =
    (between : List Run) (later : Run) (before more rest : List Entry) (e : Entry) (old : Outside) (turn : Seen)
    → Follow settings u (end settings start history).last (between ++ later ∷ []) → turn.entries ≡ e ∷ more → later.entries ≡ before ++ e ∷ rest
    → RequestTurn settings tells turn.last turn.entries old turn.new turn.stop → ShowsWhatWasNamedIn settings start history later.start before e old turn

-- These tables are what a front of the entries recorded, of which the last may be one whose commit failed, as done; and what documents of this front
-- named, later runs show. An entry that came after the one that failed is in no such front.
pub record FrontShows (tells : Type 0) (settings : Settings) (start : State) (entries : List Entry) (u : Tables) : Type 0 where
  pub history : List Entry
  pub front_is : IsFrontOf settings start entries history
  pub legal : Legal settings start history
  pub shows : LaterShow tells settings start history u

-- These calls were made of a repository that was opened over records which told their tables, and nothing is pending after them. So a crash now leaves tables over
-- which later runs show what any document named.
abbrev pub NamesOutlast : {C R : Type 0} → Type 0 → Sight Whole C R → Settings → Recorded → Whole → List (Call C R Whole) → Type 0
NamesOutlast tells sight settings records core log =
    (before : Tables) → records.tables ≡ Some before → (end_of core log).unsettled.pending ≡ None
    → FindsAlways (LaterShow tells settings core.state (entries_made (calls_made sight log))) (end_of core log).unsettled.trace (end_of core log).unsettled.trace
