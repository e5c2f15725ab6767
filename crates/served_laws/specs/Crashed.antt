-- What a crash leaves of the records of a run at each of its moments, call by call of its one history.
use Rattle.std.specs.Prelude.{◌≡◌, ◌≢◌, ℕ, List, [], ◌∷◌, ◌++◌, map, Some, None, Ok, IsTrue}
use Rattle.mvn_coords.specs.Kind.{kind}
use Rattle.mvn_coords.specs.Layout.{Coordinates}
use Rattle.mvn_coords.specs.declared.kind.Kind.TheVariants.{File}
use Rattle.outside.specs.Blobs.{Shelf}
use Rattle.repo_model.specs.Command.{collect, is_there, put}
use Rattle.repo_model.specs.Data.{Blob, Row}
use Rattle.repo_model.specs.Effect.{new_row, recorded}
use Rattle.repo_model.specs.History.{Entry, after, effects_of, end}
use Rattle.repo_model.specs.Reply.{collected, created}
use Rattle.repo_model.specs.Settings.{Settings}
use Rattle.repo_model.specs.State.{State, row_at, rows_of}
use Rattle.repo_model.specs.Tables.{Tables}
use Rattle.repo_laws.specs.Closed.{all_given_out}
use Rattle.repo_laws.specs.Holds.{told, with_items}
use Rattle.repo_laws.specs.InRange.{Completes}
use Rattle.row_tables.specs.Crashing.{Crashing}
use Rattle.row_tables.specs.Crashes.{IsOneOf, Unsettled, left_by}
use Rattle.crash_laws.specs.Found.{AllHandOver, HasStored, IsWholeWithout, NamesNone}
use Rattle.crash_laws.specs.Runs.{FindsAlways, IsAnsweredAgain, IsAnsweredWhole, IsLeftBySome, tables_after}
use Rattle.crash_laws.specs.Crashes.{IsLeft, MayNotGo}
use Rattle.repo_core.specs.Whole.{Whole}
use Rattle.repo_course.specs.Cleaning.{Store}
use Rattle.store_check.specs.Checking.{Recorded}
use Rattle.repo_run.specs.Clean as cleaning
use Rattle.repo_run.specs.FirstConnection.{Makes}
use Rattle.repo_run.specs.Surroundings.{View}
use Rattle.turn_lock.specs.declared.view.Entry.{Entry as Call}
use Rattle.turn_seats.specs.Seated.{Sight, entry_of}
use Rattle.run_desks.specs.Seen.{RunResources, Looks}
use Rattle.run_lines.specs.Printing.{Output}
use Rattle.seat_server.specs.Rules.{Rules}
use Rattle.run_serve.specs.Serving.{ServesBy, ServesWith, not_started, refused, started, worked}

-- an entry that was made, and what is unsettled of the records as its call returns
pub record Made : Type 0 where
  pub entry : Entry
  pub leaves : Unsettled

abbrev pub entries_made : List Made → List Entry
entries_made made = map (λ (m : Made). m.entry) made

-- what is unsettled after these, where this was before them
abbrev pub unsettled_after : Unsettled → List Made → Unsettled
unsettled_after old [] = old
unsettled_after old (m ∷ made) = unsettled_after m.leaves made

-- the turns of a core, and the calls of a history of one, with what is unsettled after each
abbrev pub turns_made : (entries : List Entry) (old new : Whole) → Makes old entries new → List Made
turns_made [] old new makes = []
turns_made (e ∷ entries) old new (mid, turn, makes) = record { entry = e; leaves = mid.unsettled } ∷ turns_made entries mid new makes

abbrev pub calls_made : {C R : Type 0} → Sight Whole C R → List (Call C R Whole) → List Made
calls_made sight [] = []
calls_made sight (call ∷ log) = record { entry = entry_of sight call; leaves = call.after.unsettled } ∷ calls_made sight log

-- These were made one after another, in a state over these tables, where this was unsettled: at each moment of each call a crash leaves
-- what one before the call or after it leaves.
abbrev pub AreMade : Settings → State → Tables → List Made → Unsettled → Type 0
AreMade settings s t [] old = Unit {0}
AreMade settings s t (m ∷ made) old =
    Crashing settings s m.entry (Some t) (Some (tables_after settings s m.entry t)) old m.leaves
    × AreMade settings (after settings s m.entry) (tables_after settings s m.entry t) made m.leaves

-- A start over these tables answers this file, and with the bytes that were acknowledged under its number, where the store keeps what it
-- acknowledged, even if it has lost what these gave out.
abbrev pub IsAnsweredStill : Settings → List Made → List ℕ → Row → Tables → Type 0
IsAnsweredStill settings made repo row u = IsAnsweredAgain settings repo row u × IsAnsweredWhole settings (all_given_out (entries_made made)) repo row u

module _ (settings : Settings) (start : State) (t : Tables) (old : Unsettled) where
  -- what a start may find between calls, after these: the tables then, or these with the change that is pending
  abbrev pub left_behind : List Made → List Tables
  left_behind made = left_by (with_items t (told settings start (entries_made made))) (unsettled_after old made).pending

  -- This is true of what a start may find after these, between calls; and of what it reads, from whatever file a crash leaves, at each
  -- moment from where the last of the first ones returned, or the repository was opened, until the last of the later ones did.
  abbrev pub FindsSince : (Tables → Type 0) → (front later : List Made) → Type 0
  FindsSince P front later =
      ((u : Tables) → IsOneOf u (left_behind (front ++ later)) → P u)
      × FindsAlways P (unsettled_after old front).trace (unsettled_after old (front ++ later)).trace

  -- What was made so outlasts crashes. After each front of it a start may find what the front recorded; and at each moment, between calls and
  -- inside each, it reads that of a front, from whatever file a crash then leaves. Where a call recorded something, from its return on a
  -- start answers each file that stood in a repository then, as long as no call takes it away, with the bytes that were acknowledged; so it
  -- does of what a `Put` created. What a Collect gave out to be removed is named by nothing that is found from its return on. And no file is
  -- damaged in a store that keeps what it acknowledged, even if it has lost what was given out before, where each blob that was handed
  -- over, and that of each file as the repository was opened, was acknowledged with its fingerprint.
  pub record OutlastsCrashes (made : List Made) : Type 0 where
    pub are : AreMade settings start t made old
    pub fronts : (front rest : List Made) (u : Tables) → made ≡ front ++ rest → IsOneOf u (left_behind front) → IsLeft settings start t (entries_made front) u
    pub calls : (front rest : List Made) (m : Made) → made ≡ front ++ m ∷ rest
        → FindsAlways (IsLeft settings start t (entries_made front ++ m.entry ∷ [])) (unsettled_after old front).trace m.leaves.trace
    pub moments : FindsAlways (IsLeftBySome settings start t (entries_made made)) old.trace (unsettled_after old made).trace
    pub standing : (first later rest : List Made) (m : Made) (repo : List ℕ) (row : Row) (c : Coordinates) → made ≡ first ++ m ∷ (later ++ rest)
        → recorded (effects_of settings (end settings start (entries_made first)) m.entry) ≢ []
        → row_at row.path (rows_of repo (after settings (end settings start (entries_made first)) m.entry)) ≡ Some row
        → IsTrue (is_there repo settings) → kind row.path ≡ Ok (File c) → MayNotGo (entries_made later) row.path
        → FindsSince (IsAnsweredStill settings (first ++ m ∷ later) repo row) (first ++ m ∷ []) later
    pub created_files : (first later rest : List Made) (m : Made) (repo path : List ℕ) (n : ℕ) (blob : Blob) → made ≡ first ++ m ∷ (later ++ rest)
        → m.entry.command ≡ put repo path n blob → m.entry.reply ≡ created → MayNotGo (entries_made later) path
        → FindsSince (IsAnsweredStill settings (first ++ m ∷ later) repo (new_row path blob m.entry.moment)) (first ++ m ∷ []) later
    pub given_out : (first later rest : List Made) (m : Made) (expired : ℕ) (blobs : List ℕ) → made ≡ first ++ m ∷ (later ++ rest)
        → m.entry.command ≡ collect → m.entry.reply ≡ collected expired blobs → FindsSince (NamesNone blobs) (first ++ m ∷ []) later
    pub undamaged : (front later rest : List Made) (acknowledged : Shelf) → made ≡ front ++ (later ++ rest) → HasStored acknowledged t
        → AllHandOver acknowledged (entries_made (front ++ later)) → FindsSince (IsWholeWithout (all_given_out (entries_made front)) acknowledged) front later

-- So does what a repository made that was opened over records which told their tables, from these as its start completed them, when no
-- change was pending. The records that are given back tell the tables then, what is unsettled then, and that a crash now leaves no more.
pub record RunOutlasts (settings : Settings) (core : Whole) (before : Tables) (made : List Made) (records' : Recorded) : Type 0 where
  pub whole : Tables
  pub told_core : core.tables ≡ Some whole
  pub completes : Completes before whole
  pub settled : core.unsettled.pending ≡ None
  pub outlasts : OutlastsCrashes settings core.state whole core.unsettled made
  pub told_back : records'.tables ≡ Some (with_items whole (told settings core.state (entries_made made)))
  pub unsettled_back : records'.unsettled ≡ unsettled_after core.unsettled made
  pub found_back : FindsAlways (λ u. IsOneOf u (left_behind settings core.state whole core.unsettled made)) records'.unsettled.trace records'.unsettled.trace

abbrev pub RecordsOutlastCrashes : Settings → Recorded → Whole → Recorded → List Made → Type 0
RecordsOutlastCrashes settings records core records' made = (before : Tables) → records.tables ≡ Some before → RunOutlasts settings core before made records'

-- of a cleaning, whose repository was opened; nothing where it was not
abbrev pub CleanOutlasts : (settings : Settings) (old new : View Store) (status : ℕ) → cleaning.Cleans settings old new status → Type 0
CleanOutlasts settings old new status (cleaning.not_started fault fails clock told) = Unit {0}
CleanOutlasts settings old new status (cleaning.passed begun core cleared entries result begins makes passes holds clock told) =
    RecordsOutlastCrashes settings old.records begun new.records (turns_made entries begun core makes)

module _ {L P D C R : Type 0} (looks : Looks L P D) (rules : Rules Whole C R) (settings : Settings) where
  -- of a repository that was opened and worked with, the one history of all its seats; when memory ran out to begin one, none
  abbrev pub WorkOutlasts : (records : Recorded) (core : Whole) (old : RunResources (List D)) (out : Output) (new : View (RunResources (List D))) (status : ℕ)
      → ServesWith looks rules settings core old out new status → Type 0
  WorkOutlasts records core old out new status (refused same holds clock told is) = RecordsOutlastCrashes settings records core new.records []
  WorkOutlasts records core old out new status (worked turns seat left calls failed opens works holds clock told) =
      RecordsOutlastCrashes settings records core new.records (calls_made rules.sight works.ended.log)

  -- of a server, whose repository was opened; nothing where it was not
  abbrev pub ServerOutlasts : (old new : View (RunResources (List D))) (status : ℕ) → ServesBy looks rules settings old new status → Type 0
  ServerOutlasts old new status (not_started fault only cleaner_resources clock told) = Unit {0}
  ServerOutlasts old new status (started core begun only works) = WorkOutlasts old.records core (record old.place { desks = begun }) old.out new status works
