-- What one entry of a history does to what a crash leaves of the records.
use Rattle.std.specs.Prelude.{◌≡◌, List, [], Option, Some, None}
use Rattle.repo_model.specs.declared.item.Item.{Item}
use Rattle.repo_model.specs.Command.{Command, collect}
use Rattle.repo_model.specs.Effect.{recorded}
use Rattle.repo_model.specs.History.{Entry, effects_of}
use Rattle.repo_model.specs.Reply.{Reply, collected, store_fault}
use Rattle.repo_model.specs.Settings.{Settings}
use Rattle.repo_model.specs.State.{State}
use Rattle.repo_model.specs.Tables.{Tables}
use Rattle.repo_model.specs.Turn.{turn}
use Rattle.row_tables.specs.Crashes.{CrashesInside, Rests, Unsettled}

-- what an entry was to record
abbrev pub tried : Settings → State → Entry → List Item
tried settings s e = recorded (turn settings s e.moment e.command).effects

-- a Collect that answers what it collected
abbrev pub HasCollected : Reply → Command → Type 0
HasCollected (collected expired blobs) collect = Unit {0}
HasCollected reply command = ⊥

-- How an entry changes what is pending: nothing is pending after it; or it records nothing and is no Collect that collected, and what
-- was pending stays so; or the records failed, and what it tried is pending.
pub data Pends (settings : Settings) (s : State) (e : Entry) (old new : Option (List Item)) : Type 0 where
  undone : new ≡ None → Pends settings s e old new
  stays : recorded (effects_of settings s e) ≡ [] → (HasCollected e.reply e.command → ⊥) → new ≡ old → Pends settings s e old new
  fails : e.reply ≡ store_fault → new ≡ Some (tried settings s e) → Pends settings s e old new

-- What one entry does, over tables that are told before it and after it: at each moment of its call a crash leaves what one before
-- the call or after it leaves.
pub record Crashing (settings : Settings) (s : State) (e : Entry) (told told' : Option Tables) (old new : Unsettled) : Type 0 where
  pub pends : Pends settings s e old.pending new.pending
  pub passes : CrashesInside told told' old new
  pub rests : Rests told' new
