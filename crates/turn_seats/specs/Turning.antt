-- One turn of a repository, as whoever asks it sees the turn.
use Rattle.std.specs.Prelude.{◌≡◌}
use Rattle.repo_model.specs.Asking.{IsAnswerTo}
use Rattle.repo_model.specs.Command.{Command}
use Rattle.repo_model.specs.History.{Entry, Fits, after}
use Rattle.repo_model.specs.Reply.{Reply}
use Rattle.repo_model.specs.Settings.{Settings}
use Rattle.repo_model.specs.State.{State}

-- the entry of a turn that leaves this state: its moment, and how often the records had failed after it, stand there
abbrev pub entry_leaving : Command → Reply → State → Entry
entry_leaving command reply new = record { command = command; moment = new.last; reply = reply; faults = new.faults }

-- the entry fits the state and leaves the new one, and a draft is given only where the repository takes the file
pub record IsTurn (settings : Settings) (old : State) (command : Command) (reply : Reply) (new : State) : Type 0 where
  pub fits : Fits settings old (entry_leaving command reply new)
  pub leaves : new ≡ after settings old (entry_leaving command reply new)
  pub answer : IsAnswerTo settings command reply
