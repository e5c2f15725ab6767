-- Entries that do not take a certain file away.
use Rattle.std.specs.Prelude.{◌≡◌, ◌≢◌, ◌⊎◌, ℕ, Bool, false, ◌&&◌, List, [], ◌∷◌, ◌++◌, Option, Some, Ok, IsTrue, bytes_eq}
use Rattle.std.specs.List.{list_any}
use Rattle.outside.specs.Moments.{Moments}
use Rattle.mvn_coords.specs.Kind.{kind}
use Rattle.mvn_coords.specs.Layout.{Coordinates}
use Rattle.mvn_coords.specs.declared.kind.Kind.TheVariants.{File}
use Rattle.repo_model.specs.Command.{is_there, look, put}
use Rattle.repo_model.specs.Data.{Blob, Row}
use Rattle.repo_model.specs.Effect.{Effect, expires, new_row, recorded}
use Rattle.repo_model.specs.History.{Entry, Legal, after, effects_of, end}
use Rattle.repo_model.specs.Restart.{started}
use Rattle.repo_model.specs.Settings.{Settings}
use Rattle.repo_model.specs.State.{State, row_at, rows_of}
use Rattle.repo_model.specs.Reply.{created}
use Rattle.repo_model.specs.Tables.{Tables}
use Rattle.repo_model.specs.Turn.{turn}
use Rattle.repo_laws.specs.Closed.{GivesFile}
use Rattle.repo_laws.specs.Holds.{InOrder}
use Rattle.repo_laws.specs.InRange.{Completes, InRange}
use Rattle.crash_laws.specs.Runs.{IsFoundAgain}
use Rattle.row_tables.specs.Crashes.{Unsettled}
use Rattle.crash_laws.specs.Crashes.{MayNotGo}
use Rattle.store_check.specs.Checking.{Recorded}
use Rattle.repo_core.specs.Whole.{Whole}
use Rattle.turn_lock.specs.declared.view.Entry.{Entry as Call}
use Rattle.turn_seats.specs.Seated.{Sight}
use Rattle.served_laws.specs.Crashed.{FindsSince, Made, calls_made, entries_made}

-- the effect that takes the row of a path from a repository
abbrev pub takes_file : List ℕ → List ℕ → Effect → Bool
takes_file repo path (expires at old blob) = bytes_eq at repo && bytes_eq old path
takes_file repo path effect = false

-- None of these entries, made from this state, takes the file away, or tries to: a Collect that failed counts as one that was done, since a
-- crash may leave its change.
abbrev pub Spares : Settings → State → List ℕ → List ℕ → List Entry → Type 0
Spares settings s repo path [] = Unit {0}
Spares settings s repo path (e ∷ entries) =
    (list_any (takes_file repo path) (turn settings s e.moment e.command).effects ≡ false) × Spares settings (after settings s e) repo path entries

-- none of them asks for a Collect, or the path is a release's, or none of them takes the file away
abbrev pub MayStay : Settings → State → List ℕ → List ℕ → List Entry → Type 0
MayStay settings s repo path entries = MayNotGo entries path ⊎ Spares settings s repo path entries

-- A start over these tables, once it has completed them, and any entries up to the first that takes the file away: who looks at it then is given
-- it, with its number and its fingerprint, and the bytes that the store told; or memory runs out, or no lease is left.
abbrev pub IsAnsweredLonger : Settings → List ℕ → Row → Tables → Type 0
IsAnsweredLonger settings repo row u =
    (tells : ℕ → Option (List ℕ)) (stored : List ℕ) (clock : Option Moments) (faults : ℕ) (whole : Tables) (before rest : List Entry) (e : Entry) (tried : List ℕ)
    → InOrder u → InRange u → Completes u whole → Legal settings (started settings tells stored clock faults whole) (before ++ e ∷ rest)
    → MayStay settings (started settings tells stored clock faults whole) repo row.path before → e.command ≡ look repo row.path tried
    → (kept : Blob) × IsFoundAgain tells kept row.blob × GivesFile (end settings (started settings tells stored clock faults whole) before) kept e.reply

-- Of what was made, where a call recorded something, a file that stood in a repository then is answered after a crash at any moment from its return
-- on, up to the first call that takes this file away or tries to; and so is what a `Put` created.
pub record SparedOutlast (settings : Settings) (start : State) (t : Tables) (old : Unsettled) (made : List Made) : Type 0 where
  pub standing : (first later rest : List Made) (m : Made) (repo : List ℕ) (row : Row) (c : Coordinates) → made ≡ first ++ m ∷ (later ++ rest)
      → recorded (effects_of settings (end settings start (entries_made first)) m.entry) ≢ []
      → row_at row.path (rows_of repo (after settings (end settings start (entries_made first)) m.entry)) ≡ Some row
      → IsTrue (is_there repo settings) → kind row.path ≡ Ok (File c)
      → MayStay settings (after settings (end settings start (entries_made first)) m.entry) repo row.path (entries_made later)
      → FindsSince settings start t old (IsAnsweredLonger settings repo row) (first ++ m ∷ []) later
  pub created_files : (first later rest : List Made) (m : Made) (repo path : List ℕ) (n : ℕ) (blob : Blob) → made ≡ first ++ m ∷ (later ++ rest)
      → m.entry.command ≡ put repo path n blob → m.entry.reply ≡ created
      → MayStay settings (after settings (end settings start (entries_made first)) m.entry) repo path (entries_made later)
      → FindsSince settings start t old (IsAnsweredLonger settings repo (new_row path blob m.entry.moment)) (first ++ m ∷ []) later

-- so of these calls of a repository that was opened over records which told their tables
abbrev pub CallsSpare : {C R : Type 0} → Sight Whole C R → Settings → Recorded → Whole → List (Call C R Whole) → Type 0
CallsSpare sight settings records core log =
    (before : Tables) → records.tables ≡ Some before
    → (whole : Tables) × (core.tables ≡ Some whole) × SparedOutlast settings core.state whole core.unsettled (calls_made sight log)
