-- Staged files in byte order of path, and the paths of what is recorded.
use Rattle.std.specs.Prelude.{ℕ, List, [], ◌∷◌}
use Rattle.std.specs.List.{AllByRecursion, flat_map}
use Rattle.std.specs.List.Sorted.{IsStrictlySortedBy}
use Rattle.std.specs.Ordering.{nat_cmp}
use Rattle.std.specs.declared.cmp.Ordering.{Ordering}
use Rattle.std.specs.Cmp.Lexicographic.{slice_cmp}
use Rattle.repo_model.specs.declared.item.Item.{Item}
use Rattle.repo_model.specs.declared.item.Item.TheVariants.{HostedPut, Faded, Relisted, Removed}
use Rattle.repo_model.specs.Data.{Staged, Session}
use Rattle.repo_model.specs.State.{State}

abbrev pub path_cmp : List ℕ → List ℕ → Ordering
path_cmp path other = slice_cmp nat_cmp path other

abbrev pub staged_cmp : Staged → Staged → Ordering
staged_cmp a b = path_cmp a.path b.path

-- each session has its staged files in byte order of path, each path once
abbrev pub StagedByPath : State → Type 0
StagedByPath s = AllByRecursion (λ (one : Session). IsStrictlySortedBy staged_cmp one.staged) s.sessions

-- the path of the hosted row that an item is about
abbrev pub row_path : Item → List (List ℕ)
row_path (HostedPut repo path blob print accepted) = path ∷ []
row_path (Faded repo path moment) = path ∷ []
row_path (Relisted repo path accepted) = path ∷ []
row_path (Removed repo path) = path ∷ []
row_path item = []

abbrev pub row_paths : List Item → List (List ℕ)
row_paths items = flat_map row_path items
