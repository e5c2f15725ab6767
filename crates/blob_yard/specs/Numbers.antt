-- What contracts see of the numbers: the machine's, and those that are in use.
use Rattle.std.specs.Prelude.{ℕ, List}
use Rattle.repo_model.specs.State.{Yard}

-- `kept` are the numbers of blobs that rows and staged files have, in rising order
pub record Numbers : Type 0 where
  pub yard : Yard
  pub kept : List ℕ
