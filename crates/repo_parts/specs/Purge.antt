-- The purge over all repositories: how many rows go in each, and what becomes of their blobs.
use Rattle.std.specs.Prelude.{ℕ, ◌-◌, min, List, [], ◌∷◌, length, take, IsTrue}
use Rattle.repo_model.specs.Data.{Hosted}
use Rattle.repo_model.specs.State.{Yard, is_among}
use Rattle.repo_model.specs.Effect.{condemning, without_number}
use Rattle.repo_model.specs.Purge.{expired_of}
use Rattle.ordered_rows.specs.Rows.{rows_after_all}

-- blobs become garbage, and are in use no longer
abbrev pub condemned_by : List ℕ → Yard → Yard
condemned_by [] yard = yard
condemned_by (n ∷ ns) yard = condemned_by ns (condemning n yard)

abbrev pub kept_without : List ℕ → List ℕ → List ℕ
kept_without [] kept = kept
kept_without (n ∷ ns) kept = kept_without ns (without_number n kept)

-- numbers in use, each once
abbrev pub AreKeptOnce : List ℕ → List ℕ → Type 0
AreKeptOnce [] kept = Unit {0}
AreKeptOnce (n ∷ ns) kept = IsTrue (is_among n kept) × AreKeptOnce ns (without_number n kept)

-- how many of the first rows whose grace is over stand in each repository, at most so many in all
abbrev pub shares : ℕ → ℕ → ℕ → List Hosted → List ℕ
shares grace now most [] = []
shares grace now most (h ∷ hosted) =
    min most (length (expired_of grace now h)) ∷ shares grace now (most - length (expired_of grace now h)) hosted

-- the repositories without so many of these rows each
abbrev pub dropped_by : ℕ → ℕ → List ℕ → List Hosted → List Hosted
dropped_by grace now [] hosted = hosted
dropped_by grace now (n ∷ ns) [] = []
dropped_by grace now (n ∷ ns) (h ∷ hosted) =
    record h { rows = rows_after_all (take n (expired_of grace now h)) h.rows } ∷ dropped_by grace now ns hosted
