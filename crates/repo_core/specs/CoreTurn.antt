-- One turn of the core, as the one that takes commands, and as an object that is asked in turn.
use Rattle.std.specs.Prelude.{◌≡◌, ◌+◌, min}
use Rattle.outside.specs.Faults.{last_count}
use Rattle.outside.specs.declared.stores.Held.{Ghosts}
use Rattle.repo_model.specs.Asking.{IsAnswerTo}
use Rattle.repo_model.specs.Settings.{Settings}
use Rattle.repo_model.specs.Shown.{shown_command, shown_reply, entry_of}
use Rattle.repo_model.specs.declared.command.Command.{Command}
use Rattle.repo_model.specs.declared.reply.Reply.{Reply}
use Rattle.repo_model.specs.Effect.{recorded}
use Rattle.repo_model.specs.History.{Entry, Fits, after, effects_of}
use Rattle.row_tables.specs.Commits.{tables_with}
use Rattle.row_tables.specs.Crashing.{Crashing}
use Rattle.repo_core.specs.Turn.{IsSettled}
use Rattle.repo_core.specs.Whole.{Whole}

-- under these settings the entry fits the state, the new state is the one that it leaves, what it did is recorded, at each moment a
-- crash leaves what one before the turn or after it leaves, a Collect was committed, and the turn was counted
pub record CoreTurn (settings : Settings) (old : Whole) (entry : Entry) (new : Whole) : Type 0 where
  pub fits : Fits settings old.state entry
  pub state : new.state ≡ after settings old.state entry
  pub tables : new.tables ≡ tables_with (recorded (effects_of settings old.state entry)) old.tables
  pub crashes : Crashing settings old.state entry old.tables new.tables old.unsettled new.unsettled
  pub settled : IsSettled entry.command entry.reply new.unsettled
  pub same : new.settings ≡ old.settings
  pub calls : new.calls ≡ min (old.calls + 1) last_count

-- a turn at the moment and with the count that stand in the state which it leaves, and an answer that the settings allow
pub record CoreStep {X : Type 0} {G : Ghosts X} (old : Whole) (command : Command X G) (reply : Reply X G) (new : Whole) : Type 0 where
  pub turn : CoreTurn old.settings old (entry_of command new.state.last reply new.state.faults) new
  pub answer : IsAnswerTo old.settings (shown_command command) (shown_reply reply)
