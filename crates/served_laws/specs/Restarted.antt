-- What a run shows of the files that documents named in a run before it, over the same tables and under the same settings.
use Rattle.std.specs.Prelude.{◌≡◌, ℕ, List, map}
use Rattle.mvn_coords.specs.declared.fault.Side.{Side}
use Rattle.repo_model.specs.Command.{look}
use Rattle.repo_model.specs.Data.{Blob, Row}
use Rattle.repo_model.specs.History.{Entry, end}
use Rattle.repo_model.specs.Settings.{Settings}
use Rattle.repo_model.specs.State.{State}
use Rattle.repo_laws.specs.InRange.{BeginsFrom, IsSameBlob}
use Rattle.repo_core.specs.Whole.{Whole}
use Rattle.repo_course.specs.Serving.{Outside}
use Rattle.closed_laws.specs.Answered.{ReadShows}
use Rattle.closed_laws.specs.Named.{IsSideOf, ShowsNamed, ShowsSide, WasNamed}
use Rattle.closed_laws.specs.Streams.{Seen, ShowsWhatWasNamed}
use Rattle.repo_run.specs.Begun.{Begins}
use Rattle.repo_run.specs.Surroundings.{FirstOnly, View}
use Rattle.run_desks.specs.Seen.{RunResources, Looks}
use Rattle.run_serve.specs.Serving.{OtherBlobs}
use Rattle.served_laws.specs.Runs.{IsClosed}
use Rattle.served_laws.specs.Shown.{DesksShow}

-- this entry of a turn, after those of a later run, looks at a file that was named in time in an earlier history, or at a side file of
-- it: then the turn shows a file with the same number, length and digests, or with its further digests if it had none; or what the side
-- file of that one says
abbrev pub ShowsWhatWasNamedIn : Settings → State → List Entry → State → List Entry → Entry → Outside → Seen → Type 0
ShowsWhatWasNamedIn settings first earlier start before e old turn =
    (repo : List ℕ) (row : Row) → WasNamed settings first earlier repo row e.moment → (kept : Blob) × IsSameBlob kept row.blob
    × ((tried : List ℕ) → e.command ≡ look repo row.path tried →
    ReadShows settings turn.last repo row.path (ShowsNamed (end settings start before) kept) old turn.new turn.stop)
    × ((at tried : List ℕ) (side : Side) → e.command ≡ look repo at tried → IsSideOf row.path side at →
    ReadShows settings turn.last repo at (ShowsSide side kept) old turn.new turn.stop)

-- Of two servers under the same settings, the later one over the tables that the earlier one left, one was handed no connection; or
-- each has its one history, and where no entry of the later one is earlier than the end of the other, each connection of each of its
-- desks shows every file that a document of the earlier one named, in time.
pub data RestartShows {L P D : Type 0} (looks : Looks L P D) (settings : Settings) (old new later_old later_new : View (RunResources (List D))) : Type 0 where
  idle_earlier : map looks.port new.place.desks ≡ map looks.port old.place.desks → RestartShows looks settings old new later_old later_new
  idle_later : map looks.port later_new.place.desks ≡ map looks.port later_old.place.desks → RestartShows looks settings old new later_old later_new
  both : (core later_core : Whole) (begun later_begun : List D) (history later_history : List Entry)
      → FirstOnly (OtherBlobs looks (λ blobs blobs'. Begins settings old.records blobs blobs' old.clock core)) old.place.desks begun
      → FirstOnly (OtherBlobs looks (λ blobs blobs'. Begins settings later_old.records blobs blobs' later_old.clock later_core)) later_old.place.desks later_begun
      → IsClosed settings core.state history → IsClosed settings later_core.state later_history
      → DesksShow looks (ShowsWhatWasNamed settings core.state) settings history begun new.place.desks
      → DesksShow looks (ShowsWhatWasNamed settings later_core.state) settings later_history later_begun later_new.place.desks
      → (BeginsFrom (end settings core.state history).last later_history
      → DesksShow looks (ShowsWhatWasNamedIn settings core.state history later_core.state) settings later_history later_begun later_new.place.desks)
      → RestartShows looks settings old new later_old later_new
