-- A count that stays at its greatest value.
use Rattle.std.specs.Prelude.{ℕ, min}

abbrev pub counted : ℕ → ℕ
counted n = min n 18_446_744_073_709_551_615
