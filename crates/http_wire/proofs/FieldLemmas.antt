-- Lengths in digits, and what several of them say.
use Rattle.std.proofs.Common.{◌≡◌, ℕ, ◌^◌, ◌<◌, ◌≤◌, Bool, true, false, cond, eqb, ◌&&◌, List, [], ◌∷◌, length, Some, None, refl, sym, ap, ◌∙◌, fold}
use Rattle.std.specs.Prelude.{◌==◌, map, filter}
use Rattle.std.specs.Char.{is_ascii_digit}
use Rattle.std.specs.List.{list_all}
use Rattle.std.specs.Str.{all_ascii_digits}
use Rattle.std.specs.Str.Parse.{digits_value}
use Rattle.std.proofs.lemmas.Bool.{and_right, cond-false, cond-true}
use Rattle.std.proofs.lemmas.Str.Parse.{IsNumeralModel, digits_value_short, numerals_by_value, tells_all_ascii_digits}
use Rattle.http_wire.specs.declared.requests.BodyLength.{BodyLength}
use Rattle.http_wire.specs.declared.requests.BodyLength.TheVariants.{Known, Missing, Wrong}
use Rattle.http_wire.specs.Fields.{is_length, is_named, number_of, said_length, values_of}
use Rattle.http_wire.specs.declared.requests.Field.{Field}
use Rattle.http_wire.specs.FieldSteps.{joined}

digits_same : (ds : List ℕ) → list_all is_ascii_digit ds ≡ all_ascii_digits ds
digits_same [] = refl
digits_same (d ∷ ds) = ap (λ (t : Bool). is_ascii_digit d && t) (digits_same ds)

own : IsNumeralModel (λ ds. all_ascii_digits ds ≡ true) (digits_value 10)
own = numerals_by_value (λ ds. all_ascii_digits ds ≡ true) tells_all_ascii_digits

-- 18 digits are a number below 10 ^ 18
pub number_small : (ds : List ℕ) → list_all is_ascii_digit ds ≡ true → length ds ≤ 18 → digits_value 10 ds < 10 ^ 18
number_small ds digits short = digits_value_short own ds 18 (sym (digits_same ds) ∙ digits) short

-- no length where a byte is no digit
pub no_length : (value : List ℕ) → list_all is_ascii_digit value ≡ false → None ≡ cond (is_length value) (Some (number_of value)) None
no_length value other = sym (cond-false _ _ _ (and_right _ _ (and_right _ _ other)))

-- ---- several lengths

stays : (values : List (List ℕ)) → fold joined Wrong values ≡ Wrong
stays [] = refl
stays (value ∷ values) = stays values

fold-known : (number : ℕ) (values : List (List ℕ))
    → fold joined (Known number) values ≡ cond (list_all is_length values && list_all (λ other. number_of other == number) values) (Known number) Wrong
fold-known number [] = refl
fold-known number (value ∷ values) =
    by_tests (is_length value) (eqb (number_of value) number) (list_all is_length values) (list_all (λ other. number_of other == number) values) (fold-known number values)
  where
    by_tests : (a b c d : Bool) → fold joined (Known number) values ≡ cond (c && d) (Known number) Wrong
        → fold joined (cond (a && b) (Known number) Wrong) values ≡ cond ((a && c) && (b && d)) (Known number) Wrong
    by_tests true true c d later = later
    by_tests true false true d later = stays values
    by_tests true false false d later = stays values
    by_tests false b c d later = stays values

-- what all of them say is what one says after the other
pub said_length-fold : (values : List (List ℕ)) → said_length values ≡ fold joined Missing values
unfolding said_length
said_length-fold [] = refl
said_length-fold (value ∷ values) = by_test (is_length value) (list_all is_length values) (list_all (λ other. number_of other == number_of value) values) (fold-known (number_of value) values)
  where
    by_test : (a c d : Bool) → fold joined (Known (number_of value)) values ≡ cond (c && d) (Known (number_of value)) Wrong
        → cond ((a && c) && d) (Known (number_of value)) Wrong ≡ fold joined (cond a (Known (number_of value)) Wrong) values
    by_test true c d later = sym later
    by_test false c d later = sym (stays values)

-- one field more
pub said-named : (said : BodyLength) (name : List ℕ) (f : Field) (fields : List Field) → is_named name f ≡ true
    → fold joined said (values_of name (f ∷ fields)) ≡ fold joined (joined said f.value) (values_of name fields)
said-named said name f fields named =
    ap (λ (l : List Field). fold joined said (map (λ g. g.value) l)) (cond-true (is_named name f) (f ∷ filter (is_named name) fields) (filter (is_named name) fields) named)

pub said-other : (said : BodyLength) (name : List ℕ) (f : Field) (fields : List Field) → is_named name f ≡ false
    → fold joined said (values_of name (f ∷ fields)) ≡ fold joined said (values_of name fields)
said-other said name f fields other =
    ap (λ (l : List Field). fold joined said (map (λ g. g.value) l)) (cond-false (is_named name f) (f ∷ filter (is_named name) fields) (filter (is_named name) fields) other)
