-- What a sheet gains, on which a text is written piece by piece: from when memory ran out, it has no text any more.
use Rattle.std.specs.Prelude.{◌≡◌, ℕ, List, ◌++◌, Option, Some, None}

abbrev pub Gains : Option (List ℕ) → Option (List ℕ) → List ℕ → Type 0
Gains begun None piece = Unit {0}
Gains None (Some all) piece = ⊥
Gains (Some begun) (Some all) piece = all ≡ begun ++ piece

pub record Adds (begun end : Option (List ℕ)) (piece : List ℕ) : Type 0 where
  pub gains : Gains begun end piece
