-- What a crash leaves of the records of a repository, as the tables that a start then finds.
use Rattle.std.specs.Prelude.{◌≡◌, ◌⊎◌, ℕ, false, List, [], ◌∷◌, ◌++◌, Option, None}
use Rattle.std.specs.List.{AllByRecursion}
use Rattle.repo_model.specs.declared.item.Item.{Item}
use Rattle.repo_model.specs.History.{Entry, after, end, is_collect}
use Rattle.repo_model.specs.Paths.{is_snapshot_path}
use Rattle.repo_model.specs.Reply.{store_fault}
use Rattle.repo_model.specs.Settings.{Settings}
use Rattle.repo_model.specs.State.{State}
use Rattle.repo_model.specs.Tables.{Tables}
use Rattle.repo_model.specs.Turn.{turn}
use Rattle.repo_laws.specs.Described.{IsAmong}
use Rattle.repo_laws.specs.Holds.{told, with_items}
pub use Rattle.row_tables.specs.Crashing.{Pends, fails, stays, tried, undone}
pub use Rattle.row_tables.specs.Crashes.{left_by}

-- what may be pending after these entries, in their order
abbrev pub PendAlong : Settings → State → List Entry → Option (List Item) → Option (List Item) → Type 0
PendAlong settings s [] old new = new ≡ old
PendAlong settings s (e ∷ entries) old new =
    (mid : Option (List Item)) × Pends settings s e old mid × PendAlong settings (after settings s e) entries mid new

-- What a start may find after a crash of a run that began in a state over these tables, with nothing pending, and has made these
-- entries: at a moment after the last, or at one of its call, when it finds what a crash before the call or after it leaves.
pub data IsLeft (settings : Settings) (s : State) (t : Tables) (entries : List Entry) (u : Tables) : Type 0 where
  between : (pending : Option (List Item)) → PendAlong settings s entries None pending
      → IsAmong u (left_by (with_items t (told settings s entries)) pending) → IsLeft settings s t entries u
  within : (first : List Entry) (e : Entry) (pending later : Option (List Item)) → entries ≡ first ++ e ∷ []
      → PendAlong settings s first None pending → PendAlong settings s entries None later
      → IsAmong u (left_by (with_items t (told settings s first)) pending) ⊎ IsAmong u (left_by (with_items t (told settings s entries)) later)
      → IsLeft settings s t entries u

-- none of these entries asks for a Collect, done or not
abbrev pub AreNoCollects : List Entry → Type 0
AreNoCollects entries = AllByRecursion (λ (e : Entry). is_collect e.command ≡ false) entries

-- these entries take no row of this path away: none of them asks for a Collect; or the path is a release's, which no Collect takes
abbrev pub MayNotGo : List Entry → List ℕ → Type 0
MayNotGo entries path = AreNoCollects entries ⊎ (is_snapshot_path path ≡ false)

-- an entry as it is where the records take what it tried
abbrev pub as_done : Settings → State → Entry → Entry
as_done settings s e = record e { reply = (turn settings s e.moment e.command).reply; faults = s.faults }

-- A history that a crash may leave of these entries: the first of them, or these with the next one, which failed, as done.
pub data IsFrontOf (settings : Settings) (s : State) (entries history : List Entry) : Type 0 where
  front : (rest : List Entry) → entries ≡ history ++ rest → IsFrontOf settings s entries history
  done : (first rest : List Entry) (e : Entry) → entries ≡ first ++ e ∷ rest → e.reply ≡ store_fault
      → history ≡ first ++ as_done settings (end settings s first) e ∷ [] → IsFrontOf settings s entries history
