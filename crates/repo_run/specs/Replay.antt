-- A replay: settings are read, a repository of these is opened over what is recorded and stored, and the first connection of a desk is served by it and given back.
use Rattle.std.specs.List.{AllByRecursion}
use Rattle.std.specs.Prelude.{◌≡◌, ◌≢◌, ◌⊎◌, ℕ, List, [], ◌∷◌, length, Option, Some, None, Ok, Err}
use Rattle.outside.specs.declared.tells.Tells.{Ghosts as Telling}
use Rattle.outside.specs.Faults.{Rose}
use Rattle.outside.specs.Moments.{Moments}
use Rattle.outside.specs.Told.{behind, in_front, IsAtEnd}
use Rattle.repo_model.specs.Reply.{no_draft}
use Rattle.repo_model.specs.History.{Entry, Legal, end}
use Rattle.repo_core.specs.Whole.{Whole}
use Rattle.repo_core.specs.declared.faults.StartFault.{StartFault}
use Rattle.repo_course.specs.Cleaning.{Store}
use Rattle.repo_course.specs.Course.{Fetch}
use Rattle.run_desks.specs.Seen.{DeskResources, with_blobs}
use Rattle.repo_course.specs.declared.outcomes.End.{End}
use Rattle.repo_course.specs.declared.outcomes.End.TheVariants.{Closed, SourceFault, SinkFault}
use Rattle.repo_course.specs.Serving.{ServesStream}
use Rattle.course_laws.specs.AsPlayed.{AreFetched, IsAsPlayed, IsPlayedUpTo, NoFaults, StoodStill, plans_of}
use Rattle.course_laws.specs.Endings.{EndsByCause}
use Rattle.course_laws.specs.Faultless.{first_scene}
use Rattle.repo_model.specs.Settings.{Settings}
use Rattle.repo_run.specs.FirstConnection.{Makes}
use Rattle.run_lines.specs.Lines.{input_line, memory_line}
use Rattle.run_lines.specs.Printing.{Output, Prints, PrintsPart, PrintsWhole}
use Rattle.run_lines.specs.Reading.{Reads}
use Rattle.repo_run.specs.Begun.{Begins, HoldsRecords, IsFresh, LeavesRecords, RefusesStart, StartFails}
use Rattle.repo_run.specs.Lines.{ending_line}
use Rattle.repo_run.specs.Status.{HasStatus, Counts}
use Rattle.repo_run.specs.Surroundings.{Connection, DeskState, Served, View, connection, outside_of, outside_with, placed, served, with_store}

-- all is told: the blobs' bytes, the clock's moments, the bytes that the connection gives, and those that it has taken
pub record AllTold (tells : Type 0) (clock : Option Moments) (old : Connection) (moments : Moments) (input before : List ℕ) : Type 0 where
  pub blobs_tell : tells
  pub clock_is : clock ≡ Some moments
  pub left_is : old.left ≡ Some input
  pub taken_is : old.taken ≡ Some before

-- A connection is served by a repository that begins over what is recorded and stored. Its calls, each once, in order and no
-- other, are a legal history, as long as `calls`; what they change of rows is recorded with them.
pub record IsReplayed (tells : Type 0) (settings : Settings) (old new : View Served) (ending : End) (calls : ℕ) : Type 0 where
  pub entries : List Entry
  -- the repository at first and in the end, the store as its start leaves it, and the bytes that were read ahead and not used
  pub begun : Whole
  pub core : Whole
  pub cleared : Store
  pub held : List ℕ
  pub begins : Begins settings old.records old.place.resources.blobs cleared old.clock begun
  pub serves : ServesStream settings tells 1000 entries (outside_of (with_store cleared old.place)) (outside_with held new.place) ending
  pub made : Makes begun entries core
  pub legal : Legal settings begun.state entries
  pub state : core.state ≡ end settings begun.state entries
  pub clock_is : new.clock ≡ core.state.clock
  pub holds : HoldsRecords core new.records
  pub counted : calls ≡ length entries
  -- no draft and no lease stands in the end, and no call was told that its draft is not there
  pub nothing_left : (core.state.yard.drafts ≡ []) × (core.state.yard.leases ≡ [])
  pub drafts_found : AllByRecursion (λ (e : Entry). e.reply ≢ no_draft) entries
  pub ends : EndsByCause ending (outside_of (with_store cleared old.place)) (outside_with held new.place)
  -- Over nothing, where no blob failed, what was taken is what is answered if nothing fails, up to some place
  pub played : IsFresh old.records new.records old.place.resources.blobs → (moments : Moments) (input before : List ℕ) → AllTold tells old.clock old.place.connection moments input before
      → StoodStill old.place.resources.blobs.faults new.place.resources.blobs.faults
      → (fetched : List Fetch) × AreFetched (plans_of entries) fetched old.place.resources.remote new.place.resources.remote
      × IsPlayedUpTo settings 1000 (first_scene settings (Some moments) input fetched) before (outside_of old.place) (outside_with held new.place) ending
  -- and all of it where nothing failed
  pub faultless : IsFresh old.records new.records old.place.resources.blobs → (moments : Moments) (input before : List ℕ) → AllTold tells old.clock old.place.connection moments input before
      → NoFaults (outside_of old.place) (outside_with held new.place)
      → (fetched : List Fetch) × AreFetched (plans_of entries) fetched old.place.resources.remote new.place.resources.remote
      × IsAsPlayed settings 1000 (first_scene settings (Some moments) input fetched) before new.place.connection.taken ending

-- a stream is over: its line, or the part of it that was printed, or that there was no memory for it
abbrev pub Finishes : ℕ → End → Output → Output → ℕ → Type 0
Finishes calls ending old new status =
    (PrintsWhole (ending_line calls ending) old new × (status ≡ 0))
    ⊎ (PrintsPart (ending_line calls ending) old new × (status ≡ 7))
    ⊎ (Prints memory_line old new × (status ≡ 8))

-- the status and the line of a stream that ended so
abbrev pub Reports : End → ℕ → Output → Output → ℕ → Type 0
Reports SourceFault calls old new status = Prints input_line old new × (status ≡ 6)
Reports SinkFault calls old new status = (new ≡ old) × (status ≡ 7)
Reports ending calls old new status = Finishes calls ending old new status

-- the same of the port's first connection; none, where the port failed
abbrev pub ReportsFirst : Option End → ℕ → Output → Output → ℕ → Type 0
ReportsFirst (Some ending) calls old new status = Reports ending calls old new status
ReportsFirst None calls old new status = Prints input_line old new × (status ≡ 6)

abbrev pub counts : Connection → Output → Counts
counts c out = record { source = c.read_faults; sink = c.write_faults; out = out.faults }

-- A repository of these settings serves a desk, and a line tells it. The store is the desk's, once the repository has started.
pub data Replays {X : Type 0} (tells : Type 0) (links : Telling X) (settings : Settings) (old new : View (DeskState X)) (status : ℕ) : Type 0 where
  not_started : (fault : StartFault) (blobs : Store) → StartFails old.records new.records old.place.resources.blobs blobs fault
      → new.place ≡ record old.place { resources = with_blobs blobs old.place.resources } → new.clock ≡ old.clock → RefusesStart fault old.out new.out status
      → Replays tells links settings old new status
  port_failed : (begun : Whole) (blobs : Store) (faults : ℕ) → Begins settings old.records old.place.resources.blobs blobs old.clock begun → Rose old.place.port_faults faults
      → new.place ≡ record old.place { port_faults = faults; resources = with_blobs blobs old.place.resources } → HoldsRecords begun new.records → new.clock ≡ old.clock
      → Prints input_line old.out new.out → status ≡ 6 → Replays tells links settings old new status
  none_left : (begun : Whole) (blobs : Store) → Begins settings old.records old.place.resources.blobs blobs old.clock begun → IsAtEnd old.place.left
      → new.place ≡ record old.place { resources = with_blobs blobs old.place.resources } → HoldsRecords begun new.records → new.clock ≡ old.clock
      → Reports Closed 0 old.out new.out status → Replays tells links settings old new status
  -- the first connection was served, and given back in this state
  one_served : (link link' : X) (left : Option (List X)) (resources : DeskResources) (ending : End) (calls : ℕ) → old.place.left ≡ in_front (link ∷ []) left
      → new.place ≡ record old.place { left = left; given_back = behind old.place.given_back (link' ∷ []); resources = resources }
      → IsReplayed tells settings (placed (served (connection links link) old.place.resources) old) (placed (served (connection links link') resources) new) ending calls
      → Reports ending calls old.out new.out status → HasStatus (counts (connection links link) old.out) (counts (connection links link') new.out) status
      → Replays tells links settings old new status

-- A replay, by what comes of reading its settings: there are none, or they are served by.
pub data ReplaysBy {X : Type 0} (tells : Type 0) (links : Telling X) (old new : View (DeskState X)) (status : ℕ) : Type 0 where
  refused : Reads old.source new.source old.out new.out (Err status) → new.place ≡ old.place → LeavesRecords old.records new.records → new.clock ≡ old.clock
      → ReplaysBy tells links old new status
  accepted : (settings : Settings) → Reads old.source new.source old.out old.out (Ok settings) → Replays tells links settings old new status → ReplaysBy tells links old new status
