-- Why texts are no list of patterns.
use Rattle.std.specs.Prelude.{◌≡◌, ℕ, List, Some}
use Rattle.path_patterns.specs.Pattern.{first_bad}
use Rattle.path_patterns.specs.declared.patterns.PatternFault.{PatternFault}
use Rattle.path_patterns.specs.declared.patterns.PatternFault.TheVariants.{BadPattern, NoMemory}

-- the first of the texts that is no pattern; memory may be wanting at any
abbrev pub IsFaultIn : List (List ℕ) → PatternFault → Type 0
IsFaultIn texts (BadPattern index) = first_bad texts ≡ Some index
IsFaultIn texts NoMemory = Unit {0}
