-- The bytes that a server's stores acknowledged, as a start finds them at each moment of its run.
use Rattle.std.specs.Prelude.{◌≡◌, ℕ, List, [], ◌∷◌, ◌++◌, Some}
use Rattle.outside.specs.Blobs.{Numbered, Shelf}
use Rattle.repo_model.specs.Command.{put}
use Rattle.repo_model.specs.Data.{Blob}
use Rattle.repo_model.specs.Effect.{new_row}
use Rattle.repo_model.specs.Reply.{created}
use Rattle.repo_model.specs.Settings.{Settings}
use Rattle.repo_model.specs.State.{State}
use Rattle.repo_model.specs.Tables.{Tables}
use Rattle.repo_laws.specs.Closed.{all_given_out}
use Rattle.row_tables.specs.Crashes.{Unsettled}
use Rattle.blob_audit.specs.Damages.{AreDamaged, print_of}
use Rattle.blob_audit.specs.Order.{all_rows}
use Rattle.crash_laws.specs.Found.{IsWholeWithout}
use Rattle.crash_laws.specs.Handed.{acknowledged_by, left_without}
use Rattle.crash_laws.specs.Runs.{IsAnsweredBy, IsAnsweredOver}
use Rattle.crash_laws.specs.Crashes.{MayNotGo}
use Rattle.repo_core.specs.Whole.{Whole}
use Rattle.store_check.specs.Checking.{Recorded}
use Rattle.repo_run.specs.Surroundings.{View}
use Rattle.run_lines.specs.Printing.{Output}
use Rattle.run_desks.specs.Seen.{RunResources, Looks}
use Rattle.seat_server.specs.Rules.{Rules}
use Rattle.run_serve.specs.Serving.{ServesBy, ServesWith, not_started, refused, started, worked}
use Rattle.served_laws.specs.Crashed.{FindsSince, Made, calls_made, entries_made}

-- What was made so, over these tables and a store that told this shelf then. At each moment after a front of it, between calls and inside each,
-- a start finds no file damaged in a store that keeps the blobs of the shelf and those that were handed over in the front and in `later`, even
-- if it has lost what the Collects of the front gave out. Of a moment inside a call `later` is this call alone: its blob was stored before it,
-- so nothing is asked that was stored after the moment. And each file that a `Put` created is answered with the bytes that its blob told, of
-- which its fingerprint is, as long as no call takes it away; here too `later` ends with the call of the moment.
pub record BytesOutlast (settings : Settings) (start : State) (t : Tables) (old : Unsettled) (shelf : Shelf) (made : List Made) : Type 0 where
  pub undamaged : (front later rest : List Made) → made ≡ front ++ (later ++ rest)
      → FindsSince settings start t old (IsWholeWithout (all_given_out (entries_made front)) (acknowledged_by shelf (entries_made (front ++ later)))) front later
  pub created_files : (first later rest : List Made) (m : Made) (repo path : List ℕ) (n : ℕ) (blob : Blob) → made ≡ first ++ m ∷ (later ++ rest)
      → m.entry.command ≡ put repo path n blob → m.entry.reply ≡ created → MayNotGo (entries_made later) path
      → let so_far = entries_made (first ++ m ∷ later) in
      (bytes : List ℕ) × (blob.bytes ≡ Some bytes) × (blob.print ≡ print_of bytes)
      × FindsSince settings start t old (IsAnsweredBy settings (all_given_out so_far) (acknowledged_by shelf so_far) repo (new_row path blob m.entry.moment) bytes) (first ++ m ∷ []) later

-- This says the same of one store: of that which had the blobs of the shelf, stored each that was handed over, and removed what was given out.
pub record BytesStand (settings : Settings) (start : State) (t : Tables) (old : Unsettled) (shelf : Shelf) (made : List Made) : Type 0 where
  pub undamaged : (front later rest : List Made) → made ≡ front ++ (later ++ rest)
      → let found = left_without (all_given_out (entries_made front)) shelf (entries_made (front ++ later)) in
      FindsSince settings start t old (λ u. AreDamaged found (all_rows u) []) front later
  pub created_files : (first later rest : List Made) (m : Made) (repo path : List ℕ) (n : ℕ) (blob : Blob) → made ≡ first ++ m ∷ (later ++ rest)
      → m.entry.command ≡ put repo path n blob → m.entry.reply ≡ created → MayNotGo (entries_made later) path
      → let so_far = entries_made (first ++ m ∷ later) in
      (bytes : List ℕ) × (blob.bytes ≡ Some bytes) × (blob.print ≡ print_of bytes)
      × FindsSince settings start t old (IsAnsweredOver settings (left_without (all_given_out so_far) shelf so_far) repo (new_row path blob m.entry.moment) bytes) (first ++ m ∷ []) later

-- The bytes outlast so what was made by a repository that was opened over records which told what they had, and a store which told what the start left of it
abbrev pub KeepsBytes : Settings → Recorded → Shelf → Whole → List Made → Type 0
KeepsBytes settings records shelf core made =
    (those : Numbered) (before : Tables) → shelf.blobs ≡ Some those → records.tables ≡ Some before
    → (whole : Tables) × (core.tables ≡ Some whole) × BytesOutlast settings core.state whole core.unsettled shelf made

module _ {L P D C R : Type 0} (looks : Looks L P D) (rules : Rules Whole C R) (settings : Settings) where
  -- what a server made of the repository that it opened; when memory ran out to begin a history of it, nothing
  abbrev pub made_by : (core : Whole) (old : RunResources (List D)) (out : Output) (new : View (RunResources (List D))) (status : ℕ) → ServesWith looks rules settings core old out new status → List Made
  made_by core old out new status (refused same holds clock told is) = []
  made_by core old out new status (worked turns seat left calls failed opens works holds clock told) = calls_made rules.sight works.ended.log

  -- of a server, whose repository was opened over the first desk's store, as the start left this; nothing where it was not
  abbrev pub ServerKeepsBytes : (old new : View (RunResources (List D))) (status : ℕ) → ServesBy looks rules settings old new status → Type 0
  ServerKeepsBytes old new status (not_started fault only cleaner_resources clock told) = Unit {0}
  ServerKeepsBytes old new status (started core begun only works) =
      (desk : D) (others : List D) → begun ≡ desk ∷ others
      → KeepsBytes settings old.records (looks.resources desk).blobs.shelf core (made_by core (record old.place { desks = begun }) old.out new status works)
