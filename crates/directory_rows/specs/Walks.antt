-- A walk over the rows of a directory in byte order of path, and what it may pass over.
use Rattle.std.specs.Prelude.{◌≡◌, ℕ, Bool, true, List, [], ◌∷◌, ◌++◌, is_some, string_bytes}
use Rattle.std.specs.Cmp.Lexicographic.{slice_cmp}
use Rattle.std.specs.Ordering.{is_le, nat_cmp}
use Rattle.std.specs.declared.cmp.Ordering.TheVariants.{Less}
use Rattle.mvn_coords.specs.Layout.{Directory, text_of_directory}
use Rattle.repo_model.specs.Paths.{file_at, stands_in}
use Rattle.directory_rows.specs.declared.walk.Place.{Place}
use Rattle.directory_rows.specs.declared.walk.Place.TheVariants as at
use Rattle.directory_rows.specs.declared.walk.Step.{Step}
use Rattle.directory_rows.specs.declared.walk.Step.TheVariants as goes

-- a text does not come after another one
abbrev pub IsUpTo : List ℕ → List ℕ → Type 0
IsUpTo text other = is_le (slice_cmp nat_cmp text other) ≡ true

-- the texts of a directory: its path and a slash, and its artifact and a dash
pub record IsWalkOf (d : Directory) (base word : List ℕ) (is_snapshot : Bool) : Type 0 where
  pub base_is : base ≡ text_of_directory d ++ 47 ∷ []
  pub word_is : word ≡ d.artifact ++ 45 ∷ []
  pub level_is : is_snapshot ≡ is_some d.version

-- no row of a directory is passed over where the walk goes on from a path so
abbrev pub IsStep : Directory → List ℕ → Step → Type 0
IsStep d path goes.Here = Unit {0}
IsStep d path goes.Past = (q : List ℕ) → stands_in d (file_at q) ≡ true → IsUpTo path q → ⊥
IsStep d path (goes.To next) = (slice_cmp nat_cmp path (string_bytes next) ≡ Less)
    × ((q : List ℕ) → stands_in d (file_at q) ≡ true → IsUpTo path q → IsUpTo (string_bytes next) q)

-- where a name stands
abbrev pub IsPlace : List ℕ → List ℕ → Place → Type 0
IsPlace word name at.Fits = Unit {0}
IsPlace word name (at.Deeper front) = (rest : List ℕ) × (name ≡ front.now ++ 47 ∷ rest)
IsPlace word name at.Before = slice_cmp nat_cmp name word ≡ Less
IsPlace word name at.After = (rest : List ℕ) → slice_cmp nat_cmp (word ++ rest) name ≡ Less
