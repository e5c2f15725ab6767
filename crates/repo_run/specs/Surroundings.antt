-- What a run sees of its surroundings, and what serving a connection does to them.
use Rattle.std.specs.Prelude.{◌≡◌, ℕ, List, ◌∷◌, Option}
use Rattle.outside.specs.declared.clocks.Clock.{Ghosts as Ticking}
use Rattle.outside.specs.declared.stores.Blobs.{Ghosts as Storing}
use Rattle.outside.specs.declared.tells.Tells.{Ghosts as Telling}
use Rattle.outside.specs.Moments.{Moments}
use Rattle.outside.specs.Told.{in_front}
use Rattle.outside_pace.specs.declared.pace.Pace.{Ghosts as Pacing}
use Rattle.row_tables.specs.declared.records.Records.{Ghosts as Recording}
use Rattle.repo_course.specs.Cleaning.{Store}
use Rattle.repo_course.specs.Serving.{Outside}
use Rattle.run_desks.specs.declared.objects.Cleaner.{Cleaner}
use Rattle.run_desks.specs.Seen.{RunResources, DeskResources, Looks, run_resources, with_blobs}
use Rattle.run_lines.specs.Printing.{Output, output}
use Rattle.run_lines.specs.Reading.{File, file}
use Rattle.store_check.specs.Checking.{Recorded, records_told}

-- What a run sees: the source of its settings, what it works with, its records, the moments that its clock will give, and what its
-- lines are printed on. It works with desks and a cleaner, of which a replay sees one desk and a cleaning the cleaner.
pub record View (D : Type 0) : Type 0 where
  pub source : File
  pub place : D
  pub records : Recorded
  pub clock : Option Moments
  pub out : Output

-- the same of another place
abbrev pub placed : {D E : Type 0} → E → View D → View E
placed place v = record { source = v.source; place = place; records = v.records; clock = v.clock; out = v.out }

abbrev pub source_seen : {S : Type 0} → Telling S → S → File
source_seen sources source = file (sources.left source) (sources.read_faults source)

abbrev pub records_seen : {K : Type 0} → Recording K → K → Recorded
records_seen recording records =
    let now = recording.shows records in records_told now.tables (recording.loading records) now.faults now.unsettled

abbrev pub output_seen : {O : Type 0} → Telling O → O → Output
output_seen sinks out = output (sinks.taken out) (sinks.write_faults out)

-- what is seen of these objects, with this source and this place
abbrev pub view_of : {K C O D : Type 0} → Recording K → Ticking C → Telling O → File → D → K → C → O → View D
view_of recording clocks sinks source place records clock out =
    record { source = source; place = place; records = records_seen recording records; clock = clocks.moments clock; out = output_seen sinks out }

-- what is seen of all that a run has
abbrev pub view : {S B Q K C O H N D : Type 0} → Telling S → Storing B H N → Pacing Q → Recording K → Ticking C → Telling O
    → S → D → Cleaner B Q H N → K → C → O → View (RunResources D)
view sources stores paces recording clocks sinks source desks cleaner records clock out =
    view_of recording clocks sinks (source_seen sources source) (run_resources stores paces desks cleaner) records clock out

-- what a connection tells of itself
pub record Connection : Type 0 where
  -- the bytes that it has still to give
  pub left : Option (List ℕ)
  -- the bytes that it has taken
  pub taken : Option (List ℕ)
  pub read_faults : ℕ
  pub write_faults : ℕ

abbrev pub connection : {X : Type 0} → Telling X → X → Connection
connection links link = record { left = links.left link; taken = links.taken link; read_faults = links.read_faults link; write_faults = links.write_faults link }

-- a desk: the connections that its port has left and those that were given back to it, its port's count of faults, and its own things
pub record DeskState (X : Type 0) : Type 0 where
  pub left : Option (List X)
  pub given_back : Option (List X)
  pub port_faults : ℕ
  pub resources : DeskResources

abbrev pub desk_state : {L P D : Type 0} → Looks L P D → D → DeskState L
desk_state looks desk =
    record { left = looks.left (looks.port desk); given_back = looks.given_back (looks.port desk); port_faults = looks.faults (looks.port desk); resources = looks.resources desk }

-- of two lists the first are so related, and after them both are the same
abbrev pub FirstOnly : {D : Type 0} → (D → D → Type 0) → List D → List D → Type 0
FirstOnly Related (old ∷ olds) (new ∷ news) = Related old new × (news ≡ olds)
FirstOnly Related olds news = ⊥

-- what a server sees of a connection and its desk, with these bytes not yet used
abbrev pub outside_at : Option (List ℕ) → Connection → DeskResources → Outside
outside_at input c resources = record {
  input = input;
  output = c.taken;
  read_faults = c.read_faults;
  write_faults = c.write_faults;
  blob_faults = resources.blobs.faults;
  shelf = resources.blobs.shelf;
  remote = resources.remote;
}

-- a connection at a desk with these things
pub record Served : Type 0 where
  pub connection : Connection
  pub resources : DeskResources

abbrev pub served : Connection → DeskResources → Served
served connection resources = record { connection = connection; resources = resources }

-- the same over other blobs
abbrev pub with_store : Store → Served → Served
with_store blobs s = served s.connection (with_blobs blobs s.resources)

-- what the server sees of it; and the same where these bytes were read ahead
abbrev pub outside_of : Served → Outside
outside_of s = outside_at s.connection.left s.connection s.resources

abbrev pub outside_with : List ℕ → Served → Outside
outside_with held s = outside_at (in_front held s.connection.left) s.connection s.resources
