-- The number of a session, as a path writes it.
use Rattle.std.specs.Prelude.{ℕ, Bool, not, ◌&&◌, nat_eq, nat_le, nat_lt, if◌then◌else◌, List, length, Option, Some, None, Result, codes}
use Rattle.std.specs.Char.{is_ascii_digit}
use Rattle.std.specs.List.{list_all, starts_with}
use Rattle.std.specs.Option.{ok_or}
use Rattle.std.specs.Str.Parse.{digits_value}
use Rattle.repo_model.specs.State.{number_end}
use Rattle.repo_routes.specs.declared.refusal.Refusal.{Refusal}
use Rattle.repo_routes.specs.declared.refusal.Refusal.TheVariants as refusal

-- the digits of 2 ^ 63 - 1
abbrev pub number_digits : ℕ
number_digits = 19

-- digits without a leading zero
abbrev pub is_numeral : List ℕ → Bool
is_numeral text =
    nat_lt 0 (length text) && (nat_le (length text) number_digits
    && (list_all is_ascii_digit text && not (starts_with nat_eq text (codes "0"))))

-- the number that they write, from 1 to 2 ^ 63 - 1
unfoldable pub number_in : List ℕ → Option ℕ
number_in text =
    if is_numeral text && nat_lt (digits_value 10 text) number_end then Some (digits_value 10 text) else None

unfoldable pub session_of : List ℕ → Result ℕ Refusal
session_of number = ok_or (number_in number) refusal.NoSession
