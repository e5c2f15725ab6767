-- What is left of bytes where a front, an end or the zeros before a number are cut off.
use Rattle.std.specs.Prelude.{ℕ, ◌-◌, ◌==◌, nat_eq, if◌then◌else◌, List, [], ◌∷◌, length, take, drop, Option, Some, None}
use Rattle.std.specs.List.{starts_with, ends_with}

-- what is left after a front, or before an end
abbrev pub behind : List ℕ → List ℕ → Option (List ℕ)
behind front text = if starts_with nat_eq text front then Some (drop (length front) text) else None

abbrev pub before : List ℕ → List ℕ → Option (List ℕ)
before end text =
    if ends_with nat_eq text end then Some (take (length text - length end) text) else None

-- the digits of a number without leading zeros
abbrev pub significant : List ℕ → List ℕ
significant [] = []
significant (d ∷ ds) = if d == 48 then significant ds else d ∷ ds
