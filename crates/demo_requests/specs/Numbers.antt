-- The numbers of the requests: a linear congruence, of which each number below the prime 65537 but one comes before any comes again.
use Rattle.std.specs.Prelude.{ℕ, zero, suc, ◌+◌, ◌*◌, ◌%◌}

abbrev pub next : ℕ → ℕ
next x = (75 * x + 74) % 65537

-- the number of the request at a place; the first one's place is 1
abbrev pub number_at : (from place : ℕ) → ℕ
number_at from zero = from
number_at from (suc place) = next (number_at from place)
