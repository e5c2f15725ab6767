-- The line and the status of a server that has ended (the project's own text).
use Rattle.std.specs.Prelude.{◌≡◌, ◌⊎◌, ℕ, Bool, true, false, List, ◌++◌, codes}
use Rattle.std.specs.Fmt.{decimal}
use Rattle.run_lines.specs.Lines.{line, input_line, memory_line}
use Rattle.run_lines.specs.Printing.{Output, Prints, PrintsPart, PrintsWhole}

abbrev pub calls_line : ℕ → List ℕ
calls_line calls = line (codes "calls " ++ decimal calls)

-- the line is printed, or a front of it, or there was no memory for it
abbrev pub TellsCalls : ℕ → Output → Output → ℕ → Type 0
TellsCalls calls old new status =
    (PrintsWhole (calls_line calls) old new × (status ≡ 0))
    ⊎ (PrintsPart (calls_line calls) old new × (status ≡ 7))
    ⊎ (Prints memory_line old new × (status ≡ 8))

-- the same, where no port failed
abbrev pub TellsWork : Bool → ℕ → Output → Output → ℕ → Type 0
TellsWork true calls old new status = Prints input_line old new × (status ≡ 6)
TellsWork false calls old new status = TellsCalls calls old new status
