-- What contracts see of the repository.
use Rattle.std.specs.Prelude.{ℕ, Option}
use Rattle.std.specs.Option.{ForSome}
use Rattle.repo_config.specs.Form.{IsSettings}
use Rattle.repo_model.specs.Settings.{Settings}
use Rattle.repo_model.specs.State.{State}
use Rattle.repo_model.specs.Tables.{Tables}
use Rattle.row_tables.specs.Leaving.{Shown}
use Rattle.row_tables.specs.Crashes.{Unsettled}
use Rattle.repo_laws.specs.Holds.{Holds, InOrder}
use Rattle.repo_laws.specs.Sound.{IsSound, OnePlace, Sound}

-- the settings, the state of the machine without its records, and the number of calls so far
pub record Parts : Type 0 where
  pub settings : Settings
  pub state : State
  pub calls : ℕ

-- the settings, the state of the machine, what its records tell, what a crash may leave of them beside that, and the number of calls
-- so far
pub record Whole : Type 0 where
  pub settings : Settings
  pub state : State
  pub tables : Option Tables
  pub unsettled : Unsettled
  pub calls : ℕ

-- the state with another count of how often the records have failed
abbrev pub counting : ℕ → State → State
counting faults s = record s { faults = faults }

-- the parts over records that show this
abbrev pub whole_of : Parts → Shown → Whole
whole_of p now =
    record { settings = p.settings; state = counting now.faults p.state; tables = now.tables; unsettled = now.unsettled; calls = p.calls }

-- tables in order that hold the state
pub record Tell (s : State) (t : Tables) : Type 0 where
  pub order : InOrder t
  pub holds : Holds t s

-- what the core's type keeps: the state is sound, the settings have their form, and the tables, where told, hold the state
pub record IsKept (w : Whole) : Type 0 where
  pub sound : IsSound w.settings w.state
  pub form : IsSettings w.settings
  pub told : ForSome w.tables (Tell w.state)

-- what a turn needs of it: a state in order, each blob number in one place at most, and settings of their form
pub record IsOrderly (w : Parts) : Type 0 where
  pub order : Sound w.settings w.state
  pub places : OnePlace w.state
  pub form : IsSettings w.settings
