-- Settings that are read from a source.
use Rattle.std.specs.Prelude.{◌≡◌, ℕ, ◌≤◌, List, length, Option, Some, None, Result, Ok, Err}
use Rattle.outside.specs.Faults.{Rose}
use Rattle.outside.specs.Told.{in_front}
use Rattle.repo_model.specs.Settings.{Settings}
use Rattle.repo_config.specs.Refusal.{IsFault, reading}
use Rattle.repo_config.specs.declared.source.SourceFault.{SourceFault}
use Rattle.repo_config.specs.declared.source.SourceFault.TheVariants.{Failed, Refused}

-- the settings are those of what the source had left, where that is told; a refusal is its first one
abbrev pub IsReadFrom : Option (List ℕ) → Result Settings SourceFault → Type 0
IsReadFrom (Some text) (Ok settings) = reading text ≡ Ok settings
IsReadFrom (Some text) (Err (Refused fault)) = IsFault (reading text) fault
IsReadFrom (Some text) (Err Failed) = Unit {0}
IsReadFrom None result = Unit {0}

-- the source failed only where its count of faults rose
abbrev pub HasSourceCause : ℕ → ℕ → Result Settings SourceFault → Type 0
HasSourceCause before after (Err Failed) = Rose before after
HasSourceCause before after _ = after ≡ before

-- from the front of what was left at most so many bytes are gone
abbrev pub TakesAtMost : ℕ → Option (List ℕ) → Option (List ℕ) → Type 0
TakesAtMost most before after = (bytes : List ℕ) × (length bytes ≤ most) × (before ≡ in_front bytes after)
