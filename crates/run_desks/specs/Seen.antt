-- What is seen of the things that a run works with: its desks, each with its own things, and its cleaner.
use Rattle.std.specs.Prelude.{ℕ, List, Option}
use Rattle.outside.specs.declared.ports.Port.{Ghosts as Listening}
use Rattle.outside.specs.declared.stores.Blobs.{Ghosts as Storing}
use Rattle.outside.specs.declared.stores.Held.{Ghosts as Holding}
use Rattle.outside.specs.declared.tells.Tells.{Ghosts as Telling}
use Rattle.outside_pace.specs.declared.pace.Pace.{Ghosts as Pacing}
use Rattle.outside_pace.specs.Pauses.{Pauses}
use Rattle.outside_remote.specs.Exchanges.{Sees}
use Rattle.outside_remote.specs.declared.remote.Remote.{Ghosts as Fetching}
use Rattle.repo_course.specs.Cleaning.{Store, store}
use Rattle.repo_course.specs.Serving.{AllTell, Outside, outside}
use Rattle.run_desks.specs.declared.objects.Cleaner.{Cleaner}
use Rattle.run_desks.specs.declared.objects.Desk.{Desk}

-- what a desk's own things tell: its store of blobs, and the remotes
pub record DeskResources : Type 0 where
  pub blobs : Store
  pub remote : Sees

-- the same with other blobs
abbrev pub with_blobs : Store → DeskResources → DeskResources
with_blobs blobs resources = record resources { blobs = blobs }

-- how desks are seen: what a connection tells; of a port the connections that it will hand out, those that came back, and how many
-- of its calls have failed; a desk's port and its own things; and that blobs in use tell their bytes
pub record Looks (L P D : Type 0) : Type 1 where
  pub link : Telling L
  pub left : P → Option (List L)
  pub given_back : P → Option (List L)
  pub faults : P → ℕ
  pub port : D → P
  pub resources : D → DeskResources
  pub tells : Type 0

abbrev pub store_seen : {B H N : Type 0} → Storing B H N → B → Store
store_seen stores blobs = store (stores.shelf blobs) (stores.faults blobs)

abbrev pub looks : {P B R L H N : Type 0} → Listening P L → Telling L → Storing B H N → Holding H → Fetching R → Looks L P (Desk P B R L H N)
looks ports links stores held remotes = record {
  link = links;
  left = ports.left;
  given_back = ports.given_back;
  faults = ports.faults;
  port = λ desk. desk.port;
  resources = λ desk. record { blobs = store_seen stores desk.blobs; remote = remotes.sees desk.remote };
  tells = AllTell held.bytes;
}

-- what is seen while a connection is served with these things, of which these bytes are held
abbrev pub around : {L P D : Type 0} → Looks L P D → List ℕ → L → DeskResources → Outside
around looks held link resources = outside looks.link held link resources.blobs.faults resources.blobs.shelf resources.remote

-- the cleaner: the pauses that its timer tells, and its blobs
pub record CleanerResources : Type 0 where
  pub pauses : Option Pauses
  pub blobs : Store

abbrev pub cleaner_resources : {B Q H N : Type 0} → Storing B H N → Pacing Q → Cleaner B Q H N → CleanerResources
cleaner_resources stores paces cleaner = record { pauses = paces.pauses cleaner.pace; blobs = store_seen stores cleaner.blobs }

-- what a run works with: a desk or several, and the cleaner
pub record RunResources (D : Type 0) : Type 0 where
  pub desks : D
  pub cleaner : CleanerResources

abbrev pub run_resources : {B Q H N D : Type 0} → Storing B H N → Pacing Q → D → Cleaner B Q H N → RunResources D
run_resources stores paces desks cleaner = record { desks = desks; cleaner = cleaner_resources stores paces cleaner }
