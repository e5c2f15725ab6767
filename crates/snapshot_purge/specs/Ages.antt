-- The builds of a snapshot directory in whatever order, each with the greatest moment at which a file of it was accepted.
use Rattle.std.specs.Prelude.{◌≡◌, ℕ, max, List, [], ◌∷◌, map, sum_by, Option, Some, None, if◌then◌else◌}
use Rattle.mvn_coords.specs.FileName.{BuildOf}
use Rattle.repo_model.specs.Purge.{Aged, is_same_build}

abbrev pub shown_age : BuildOf × ℕ → Aged
shown_age e = record { build = e.0; accepted = e.1 }

abbrev pub shown_ages : List (BuildOf × ℕ) → List Aged
shown_ages entries = map shown_age entries

-- the moment that stands with a build
abbrev pub age_of : BuildOf → List Aged → Option ℕ
age_of b [] = None
age_of b (a ∷ builds) = if is_same_build b a.build then Some a.accepted else age_of b builds

-- two lists have the same builds with the same moments: each sum over them is the same, and each build's moment
pub record HaveSameBuilds (xs ys : List Aged) : Type 0 where
  pub sums : (f : Aged → ℕ) → sum_by f xs ≡ sum_by f ys
  pub ages : (b : BuildOf) → age_of b xs ≡ age_of b ys

-- the later one of two moments, of which the first may be missing
abbrev pub latest : Option ℕ → ℕ → ℕ
latest None accepted = accepted
latest (Some before) accepted = max before accepted
