-- Only rows of snapshots fade.
use Rattle.std.specs.Prelude.{◌≡◌, ℕ, List, Some}
use Rattle.std.specs.List.{AllByRecursion}
use Rattle.repo_model.specs.Data.{Row, fading}
use Rattle.repo_model.specs.Paths.{FadesRightly}
use Rattle.repo_model.specs.State.{row_at}

abbrev pub AllFadeRightly : List Row → Type 0
AllFadeRightly rows = AllByRecursion FadesRightly rows

-- the row at a path fades
abbrev pub FadesAt : List ℕ → List Row → Type 0
FadesAt path rows = (row : Row) × (since : ℕ) × (row_at path rows ≡ Some row) × (row.phase ≡ fading since)
