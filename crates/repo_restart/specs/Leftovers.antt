-- The numbers of blobs that rows name, those that a store has beside them, and what is left once these are removed.
use Rattle.std.specs.Prelude.{◌≡◌, ℕ, ◌+◌, not, List, ◌++◌, filter, fold}
use Rattle.outside.specs.Blobs.{Shelf, numbers_of, without_blob}
use Rattle.outside.specs.Told.{IsWhereTold}
use Rattle.repo_model.specs.Restart.{greatest_number}
use Rattle.repo_model.specs.State.{is_among}

-- the stored numbers that are not named, in the order of the store
abbrev pub left_over : List ℕ → List ℕ → List ℕ
left_over named stored = filter (λ n. not (is_among n named)) stored

-- these blobs are removed, one after another
abbrev pub without_blobs : List ℕ → Shelf → Shelf
without_blobs numbers shelf = fold (λ (left : Shelf) (n : ℕ). without_blob n left) shelf numbers

-- Of the stored blobs exactly those that are not named are removed, and the next number is one more than the greatest below
-- 2 ^ 63 of all that are named or stored, or 1.
pub record Clears (named : List ℕ) (old new : Shelf) (next : ℕ) : Type 0 where
  pub stored : List ℕ
  pub told : IsWhereTold (numbers_of old) stored
  pub removed : new ≡ without_blobs (left_over named stored) old
  pub above : next ≡ greatest_number (named ++ stored) + 1

-- of the stored blobs that are not named the first ones are removed
pub record ClearsFront (named : List ℕ) (old new : Shelf) : Type 0 where
  pub stored : List ℕ
  pub gone : List ℕ
  pub rest : List ℕ
  pub told : IsWhereTold (numbers_of old) stored
  pub parts : left_over named stored ≡ gone ++ rest
  pub removed : new ≡ without_blobs gone old
