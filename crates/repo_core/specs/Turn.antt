-- What one turn answers and leaves, its moment being settled.
use Rattle.std.specs.Prelude.{◌≡◌, ◌⊎◌, ℕ, ◌≤◌, IsTrue, if◌then◌else◌, List, [], None}
use Rattle.repo_model.specs.Settings.{Settings}
use Rattle.repo_model.specs.State.{State}
use Rattle.repo_model.specs.declared.item.Item.{Item}
use Rattle.repo_model.specs.Effect.{Effect, recorded, with_effects}
use Rattle.repo_model.specs.Command.{Command, collect}
use Rattle.repo_model.specs.History.{commits, latest_moment}
use Rattle.repo_model.specs.Reply.{Reply, collected, no_memory, store_fault, takes_memory, is_free}
use Rattle.repo_model.specs.Turn.{turn}
use Rattle.row_tables.specs.Leaving.{FitWhereTold, Leaves, Shown, end_by}
use Rattle.row_tables.specs.Crashes.{Unsettled}
use Rattle.repo_core.specs.Whole.{Parts}

-- what a command did that got this reply
abbrev pub done_by : Settings → State → Command → Reply → List Effect
done_by settings s command reply = if is_free reply then [] else (turn settings s s.last command).effects

-- what a command is to record at the last moment
abbrev pub items_due : Parts → Command → List Item
items_due w command = recorded (turn w.settings w.state w.state.last command).effects

-- a command's reply at the last moment, and what it leaves, where the records are not asked
pub record Turned (old new : Parts) (command : Command) (reply : Reply) : Type 0 where
  pub settings : new.settings ≡ old.settings
  pub calls : new.calls ≡ old.calls
  pub answered : (reply ≡ (turn old.settings old.state old.state.last command).reply) ⊎ ((reply ≡ no_memory) × IsTrue (takes_memory command))
  pub left : new.state ≡ with_effects old.state (done_by old.settings old.state command reply)

-- the reply is the one that is due, or memory ran out, or the records failed, which were asked
pub data IsAnswer (w : Parts) (command : Command) (reply : Reply) : Type 0 where
  due : reply ≡ (turn w.settings w.state w.state.last command).reply → IsAnswer w command reply
  wants_memory : reply ≡ no_memory → IsTrue (takes_memory command) → IsAnswer w command reply
  failed : reply ≡ store_fault → IsTrue (commits command (turn w.settings w.state w.state.last command).effects) → IsAnswer w command reply

-- a command's reply at the last moment, and what it leaves, of the records too
pub record Recorded (old new : Parts) (command : Command) (reply : Reply) (before later : Shown) : Type 0 where
  pub settings : new.settings ≡ old.settings
  pub calls : new.calls ≡ old.calls
  pub answered : IsAnswer old command reply
  pub left : new.state ≡ with_effects old.state (done_by old.settings old.state command reply)
  pub records : Leaves (items_due old command) (end_by reply) before later

-- a Collect that answers what it collected was committed, so that no change whose commit failed is found any more
abbrev pub IsSettledBy : Reply → Unsettled → Type 0
IsSettledBy (collected expired blobs) unsettled = unsettled.pending ≡ None
IsSettledBy reply unsettled = Unit {0}

abbrev pub IsSettled : Command → Reply → Unsettled → Type 0
IsSettled collect reply unsettled = IsSettledBy reply unsettled
IsSettled command reply unsettled = Unit {0}

-- the records are ready, and whatever the moment of the turn is, what it records fits the tables
pub record MayRecord (w : Parts) (now : Shown) (command : Command) : Type 0 where
  pub ready : now.IsReady
  pub fits : (moment : ℕ) → w.state.last ≤ moment → moment ≤ latest_moment → FitWhereTold now.tables (recorded (turn w.settings w.state moment command).effects)
