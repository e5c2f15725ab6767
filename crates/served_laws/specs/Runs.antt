-- A run by its one history: what it was opened over, what its history keeps, and what its connections show.
use Rattle.std.specs.Prelude.{◌≡◌, List, map, Option, Some, None}
use Rattle.repo_model.specs.History.{Entry, Legal}
use Rattle.repo_model.specs.Settings.{Settings}
use Rattle.repo_model.specs.State.{State}
use Rattle.repo_model.specs.Tables.{Tables}
use Rattle.repo_laws.specs.Closed.{Closed, Untouched}
use Rattle.repo_laws.specs.Holds.{InOrder, StandsFor, told, with_items}
use Rattle.repo_laws.specs.InRange.{Completes}
use Rattle.repo_laws.specs.Sound.{AreNamedApart, IsSound}
use Rattle.repo_core.specs.Whole.{Whole}
use Rattle.store_check.specs.Checking.{Recorded}
use Rattle.repo_run.specs.Begun.{Begins}
use Rattle.repo_run.specs.Surroundings.{FirstOnly, View}
use Rattle.closed_laws.specs.Streams.{ShowsWhatWasNamed}
use Rattle.run_desks.specs.Seen.{RunResources, Looks}
use Rattle.run_serve.specs.Serving.{OtherBlobs}
use Rattle.served_laws.specs.Shown.{DesksShow}

-- A legal history from a sound state: every file that a document of it names is answered after it, up to the grace after that
-- moment; and what a Collect gave out stays gone.
pub record IsClosed (settings : Settings) (start : State) (history : List Entry) : Type 0 where
  pub apart : AreNamedApart settings.hosted
  pub sound : IsSound settings start
  pub legal : Legal settings start history
  pub closed : Closed settings start history
  pub untouched : Untouched settings start history

-- what such a run did to tables: its start completed them, it began in a state that stands for them then, and left them with what its
-- history recorded
pub record IsRecorded (settings : Settings) (before after : Tables) (start : State) (history : List Entry) : Type 0 where
  pub whole : Tables
  pub order : InOrder before
  pub completes : Completes before whole
  pub stands : StandsFor whole start
  pub left : after ≡ with_items whole (told settings start history)

-- so it did to those of its records, where these tell them
abbrev pub RecordsTables : Settings → Recorded → Recorded → State → List Entry → Type 0
RecordsTables settings records records' start history =
    (before : Tables) → records.tables ≡ Some before → (after : Tables) × (records'.tables ≡ Some after) × IsRecorded settings before after start history

-- the tables that are told are the same, but for further digests that rows lacked
abbrev pub CompletesTold : Option Tables → Option Tables → Type 0
CompletesTold None new = new ≡ None
CompletesTold (Some old) new = (whole : Tables) × (new ≡ Some whole) × Completes old whole

-- Of a server under these settings either no connection was handed out and the tables are the same, but for further digests; or its repository was opened over
-- the records and the first desk's blobs, and has one history, in which each connection of each desk shows every file that a
-- document named before, and in time.
pub data ServerShows {L P D : Type 0} (looks : Looks L P D) (settings : Settings) (old new : View (RunResources (List D))) : Type 0 where
  idle : map looks.port new.place.desks ≡ map looks.port old.place.desks → CompletesTold old.records.tables new.records.tables → ServerShows looks settings old new
  served : (core : Whole) (begun : List D) (history : List Entry)
      → FirstOnly (OtherBlobs looks (λ blobs blobs'. Begins settings old.records blobs blobs' old.clock core)) old.place.desks begun
      → IsClosed settings core.state history
      → DesksShow looks (ShowsWhatWasNamed settings core.state) settings history begun new.place.desks
      → RecordsTables settings old.records new.records core.state history
      → ServerShows looks settings old new
