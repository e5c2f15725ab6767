-- The number of a session, by its digits.
use Rattle.std.proofs.Common.{◌≡◌, ℕ, ◌^◌, ◌<◌, ◌≤◌, Bool, true, false, not, cond, ◌&&◌, nat_eq, nat_le, nat_lt, codes, List, [], ◌∷◌, length, Some, None, refl, sym, ap, ◌∙◌}
use Rattle.std.specs.Char.{is_ascii_digit}
use Rattle.std.specs.List.{list_all, starts_with}
use Rattle.std.specs.Str.{all_ascii_digits}
use Rattle.std.specs.Str.Parse.{digits_value}
use Rattle.std.proofs.lemmas.Bool.{and_right, cond-false}
use Rattle.std.proofs.lemmas.Str.Parse.{IsNumeralModel, digits_value_short, numerals_by_value, tells_all_ascii_digits}
use Rattle.repo_routes.specs.Numbers.{is_numeral}

digits_same : (ds : List ℕ) → list_all is_ascii_digit ds ≡ all_ascii_digits ds
digits_same [] = refl
digits_same (d ∷ ds) = ap (λ (t : Bool). is_ascii_digit d && t) (digits_same ds)

own : IsNumeralModel (λ ds. all_ascii_digits ds ≡ true) (digits_value 10)
own = numerals_by_value (λ ds. all_ascii_digits ds ≡ true) tells_all_ascii_digits

-- 18 digits are a number below 10 ^ 18
pub number_small : (ds : List ℕ) → list_all is_ascii_digit ds ≡ true → length ds ≤ 18 → digits_value 10 ds < 10 ^ 18
number_small ds digits short = digits_value_short own ds 18 (sym (digits_same ds) ∙ digits) short

-- no number where a byte is no digit
pub no_numeral : (text : List ℕ) → list_all is_ascii_digit text ≡ false → None ≡ cond (is_numeral text) (Some (digits_value 10 text)) None
no_numeral text other =
    let rest : (list_all is_ascii_digit text && not (starts_with nat_eq text (codes "0"))) ≡ false = rw other refl in
    sym (cond-false _ _ _ (and_right (nat_lt 0 (length text)) _ (and_right (nat_le (length text) 19) _ rest)))
