-- The directories of artifacts that may have rows.
use Rattle.std.specs.Prelude.{◌≡◌, ℕ, Bool, List, ◌∷◌, Option, Some, None, IsTrue, String, string_bytes, bytes_eq}
use Rattle.std.specs.declared.alloc.Global.{Global}
use Rattle.std.specs.List.{AllByRecursion, list_any}
use Rattle.std.specs.Option.{ForSome}
use Rattle.mvn_coords.specs.Segment.{Segment, levels, path_of_levels}
use Rattle.repo_model.specs.Data as plain

-- a file's artifact has the directory above its version directory
abbrev pub home_above : List Segment → Option (List ℕ)
home_above (name ∷ version ∷ artifact ∷ above) = Some (path_of_levels (artifact ∷ above))
home_above _ = None

abbrev pub home_of : List ℕ → Option (List ℕ)
home_of path = home_above (levels path)

-- whether a directory is one of these
abbrev pub has_home : List (String Global) → List ℕ → Bool
has_home homes home = list_any (λ k. bytes_eq (string_bytes k) home) homes

-- the directory of each row's artifact is one of these; they may be more
abbrev pub IsHomed : List (String Global) → List ℕ → Type 0
IsHomed homes path = ForSome (home_of path) (λ home. IsTrue (has_home homes home))

abbrev pub AreHomed : List (String Global) → List plain.Row → Type 0
AreHomed homes rows = AllByRecursion (λ (row : plain.Row). IsHomed homes row.path) rows

-- no row's artifact has this directory
abbrev pub AreElsewhere : List ℕ → List plain.Row → Type 0
AreElsewhere home rows = AllByRecursion (λ (row : plain.Row). home_of row.path ≡ Some home → ⊥) rows
