-- How settings are refused.
use Rattle.std.specs.Prelude.{◌≡◌, ◌⊎◌, ℕ, List, Some}
use Rattle.repo_config.specs.declared.faults.SettingsFault.{SettingsFault}
use Rattle.run_lines.specs.Lines.{memory_line, refusal_line}
use Rattle.run_lines.specs.Printing.{Output, Prints}

-- why settings are refused, and that they are; or memory ran out for the line, or for the reading itself
abbrev pub Refuses : SettingsFault → Output → Output → ℕ → Type 0
Refuses refusal old new status =
    ((line : List ℕ) × (refusal_line refusal ≡ Some line) × Prints line old new × (status ≡ 3))
    ⊎ (Prints memory_line old new × (status ≡ 8))
