-- The settings of a run, read from a source.
use Rattle.std.specs.Prelude.{◌≡◌, ◌⊎◌, ℕ, List, Option, Result, Ok, Err}
use Rattle.outside.specs.Faults.{Rose}
use Rattle.repo_config.specs.Source.{IsReadFrom}
use Rattle.repo_config.specs.declared.source.SourceFault.TheVariants.{Refused}
use Rattle.repo_config.specs.declared.faults.SettingsFault.{SettingsFault}
use Rattle.repo_model.specs.Settings.{Settings}
use Rattle.run_lines.specs.Lines.{input_line}
use Rattle.run_lines.specs.Printing.{Output, Prints}
use Rattle.run_lines.specs.Refusing.{Refuses}

-- the source of the settings: the bytes that it has left, where told, and its count of faults
pub record File : Type 0 where
  pub left : Option (List ℕ)
  pub faults : ℕ

abbrev pub file : Option (List ℕ) → ℕ → File
file left faults = record { left = left; faults = faults }

-- The source says settings, and nothing is printed; or it failed, or what it says is refused, and a line and a status tell it.
abbrev pub Reads : File → File → Output → Output → Result Settings ℕ → Type 0
Reads old new out out' (Ok settings) = (new.faults ≡ old.faults) × IsReadFrom old.left (Ok settings) × (out' ≡ out)
Reads old new out out' (Err status) =
    (Rose old.faults new.faults × Prints input_line out out' × (status ≡ 6))
    ⊎ ((refusal : SettingsFault) × (new.faults ≡ old.faults) × IsReadFrom old.left (Err (Refused refusal)) × Refuses refusal out out' status)
