-- Ids of repositories, and the first that stands twice.
use Rattle.std.specs.Prelude.{ℕ, Bool, ◌&&◌, ◌||◌, ◌==◌, nat_le, if◌then◌else◌, List, [], ◌∷◌, ◌++◌, length, Option, Some, None}
use Rattle.std.specs.Char.{is_ascii_digit, is_ascii_lowercase}
use Rattle.std.specs.List.{list_all, list_any}
use Rattle.std.specs.Str.{bytes_eq}

-- small letters, digits and `-`
abbrev pub is_id_byte : ℕ → Bool
is_id_byte b = is_ascii_lowercase b || is_ascii_digit b || (b == 45)

-- 1 to 64 of these
abbrev pub is_id : List ℕ → Bool
is_id text = nat_le 1 (length text) && nat_le (length text) 64 && list_all is_id_byte text

abbrev pub is_among : List (List ℕ) → List ℕ → Bool
is_among ids id = list_any (λ other. bytes_eq other id) ids

-- the first of the ids that stands among those before it, or among the ones seen earlier
abbrev pub first_twice : List (List ℕ) → List (List ℕ) → Option (List ℕ)
first_twice seen [] = None
first_twice seen (id ∷ ids) = if is_among seen id then Some id else first_twice (seen ++ id ∷ []) ids
