-- Rows that fade, as the machine's plain data.
use Rattle.std.specs.Prelude.{◌≡◌, ℕ, List, [], ◌∷◌, false, map, String, string_bytes}
use Rattle.std.specs.List.{AllByRecursion}
use Rattle.std.specs.Option.{option_map_or}
use Rattle.mvn_coords.specs.Layout.{Directory}
use Rattle.repo_model.specs.Paths.{file_at, stands_in}
use Rattle.repo_model.specs.State.{change_where, is_row, row_at}
use Rattle.std.specs.declared.alloc.Global.{Global}
use Rattle.repo_model.specs.Data as plain
use Rattle.repo_model.specs.Effect.{Effect, fades, list_again}
use Rattle.directory_rows.specs.Rules.{shown_rule}
use Rattle.directory_rows.specs.declared.rule.Rule.{Rule}

-- a repository of a rule with some rows
abbrev pub hosted_of : Rule → List plain.Row → plain.Hosted
hosted_of rule rows = record { rule = shown_rule rule; rows = rows }

-- each row at one of the paths fades
abbrev pub fade_at_paths : List ℕ → ℕ → List (String Global) → List Effect
fade_at_paths repo now paths = map (λ path. fades repo (string_bytes path) now) paths

-- no file at one of the paths stands in a directory
abbrev pub AreApartFrom : Directory → List (String Global) → Type 0
AreApartFrom d paths = AllByRecursion (λ (path : String Global). stands_in d (file_at (string_bytes path)) ≡ false) paths

-- when the row at a path was accepted, and that at each of some paths
abbrev pub accepted_of : List plain.Row → List ℕ → ℕ
accepted_of rows path = option_map_or (λ (row : plain.Row). row.accepted) (row_at path rows) 0

abbrev pub accepted_at : List plain.Row → List (String Global) → List ℕ
accepted_at rows paths = map (λ (path : String Global). accepted_of rows (string_bytes path)) paths

-- the rows with those at the paths visible again, each accepted at its moment
abbrev pub listed_back : List (String Global) → List ℕ → List plain.Row → List plain.Row
listed_back [] moments rows = rows
listed_back (path ∷ paths) [] rows = rows
listed_back (path ∷ paths) (moment ∷ moments) rows = listed_back paths moments (change_where (is_row (string_bytes path)) (list_again moment) rows)
