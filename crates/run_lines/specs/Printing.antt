-- What printing a text does to the output of a run.
use Rattle.std.specs.Prelude.{◌≡◌, ◌⊎◌, ℕ, ◌<◌, List, length, take, Option}
use Rattle.outside.specs.Faults.{Rose}
use Rattle.outside.specs.Told.{behind}

-- what the lines of a run are printed on: the bytes that it has taken, and its count of faults
pub record Output : Type 0 where
  pub taken : Option (List ℕ)
  pub faults : ℕ

abbrev pub output : Option (List ℕ) → ℕ → Output
output taken faults = record { taken = taken; faults = faults }

-- the text was printed, and no fault was counted
abbrev pub PrintsWhole : List ℕ → Output → Output → Type 0
PrintsWhole text old new = new ≡ output (behind old.taken text) old.faults

-- a fault was counted, and what was printed is a front of the text, and not all of it
abbrev pub PrintsPart : List ℕ → Output → Output → Type 0
PrintsPart text old new =
    (n : ℕ) × (n < length text) × Rose old.faults new.faults × (new.taken ≡ behind old.taken (take n text))

abbrev pub Prints : List ℕ → Output → Output → Type 0
Prints text old new = PrintsWhole text old new ⊎ PrintsPart text old new
