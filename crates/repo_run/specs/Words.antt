-- What the words of a command line ask for, as `clap` reads them.
use Rattle.std.specs.Prelude.{ℕ, List, [], Option, Some, None}
use Rattle.command_words.specs.Wanted.{wanted_of}
use Rattle.command_words.specs.declared.wanted.Wanted as words
use Rattle.command_words.specs.declared.wanted.Wanted.TheVariants as word
use Rattle.repo_run.specs.declared.actions.Action.{Action}
use Rattle.repo_run.specs.declared.actions.Action.TheVariants.{Replay, Check, Clean, Serve, Demo, Nothing}
use Rattle.repo_run.specs.declared.actions.Wanted.{Wanted}

-- a command over a folder
abbrev pub over_folder : Action → List ℕ → List ℕ → Wanted
over_folder command settings folder = record { command = command; settings = settings; folder = folder; at = 0; step = 0; port = 0 }

-- words that are refused ask for nothing
abbrev pub asked_by : Option words.Wanted → Wanted
asked_by (Some (word.Replay settings at step)) = record { command = Replay; settings = settings; folder = []; at = at; step = step; port = 0 }
asked_by (Some (word.Check settings folder)) = over_folder Check settings folder
asked_by (Some (word.Clean settings folder)) = over_folder Clean settings folder
asked_by (Some (word.Serve settings folder port)) = record { command = Serve; settings = settings; folder = folder; at = 0; step = 0; port = port }
asked_by (Some (word.Demo from calls)) = over_folder (Demo from calls) [] []
asked_by None = over_folder Nothing [] []

abbrev pub asked : List (List ℕ) → Wanted
asked words = asked_by (wanted_of words)
