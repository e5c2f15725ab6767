-- A text writes a civil time exactly where it is that time's text.
use Rattle.std.proofs.Common.{◌≡◌, ℕ, zero, suc, ◌+◌, ◌/◌, ◌%◌, true, cond, List, [], ◌∷◌, ◌++◌, take, drop, Some, None, refl, ap, sym, ◌∙◌, arith, pos}
use Rattle.std.specs.Char.{is_ascii_digit}
use Rattle.std.proofs.lemmas.Bool.{and_from, le-leb}
use Rattle.std.proofs.lemmas.List.Folds.{list_all-append}
use Rattle.jiff_core.proofs.CalendarLemmas.{days_in_month_bounds}
use Rattle.mvn_coords.specs.Civil.{CivilTime, is_civil, time_of, is_time_form, fields_of, if_civil, text_of_time, digits, are_digits, IsExactText}
use Rattle.mvn_coords.proofs.Digits.{decimal-digits}
use Rattle.mvn_coords.proofs.Results.{chosen_some, some_same}
use Rattle.mvn_coords.proofs.Times.{from_civil}
use Rattle.mvn_coords.proofs.Written.{text_of_time-time_of}

digit_is : (x : ℕ) → is_ascii_digit (48 + x % 10) ≡ true
digit_is x = and_from _ _ (le-leb 48 (48 + x % 10) (omega arith)) (le-leb (48 + x % 10) 57 (omega arith))

both_digits : (a b : List ℕ) → are_digits a ≡ true → are_digits b ≡ true → are_digits (a ++ b) ≡ true
both_digits a b h k = list_all-append is_ascii_digit a b ∙ and_from (are_digits a) (are_digits b) h k

digits_are : (n x : ℕ) → are_digits (digits n x) ≡ true
digits_are zero x = refl
digits_are (suc n) x = both_digits (digits n (x / 10)) ((48 + x % 10) ∷ []) (digits_are n (x / 10)) (and_from _ _ (digit_is x) refl)

fields-text : (t : CivilTime) → is_civil t ≡ true → fields_of (take 8 (text_of_time t)) (drop 9 (text_of_time t)) ≡ t
fields-text t h =
    let c = from_civil t h in
    let days = days_in_month_bounds (pos t.year) t.month in
    let year = decimal-digits 4 t.year (omega (arith, c.year)) in
    let month = decimal-digits 2 t.month (omega (arith, c.month)) in
    let day = decimal-digits 2 t.day (omega (arith, c.day, days)) in
    let hour = decimal-digits 2 t.hour (omega (arith, c.hour)) in
    let minute = decimal-digits 2 t.minute (omega (arith, c.minute)) in
    let second = decimal-digits 2 t.second (omega (arith, c.second)) in
    λ i. record { year = year i; month = month i; day = day i; hour = hour i; minute = minute i; second = second i }

form-text : (t : CivilTime) → is_time_form (text_of_time t) ≡ true
form-text t =
    let date = both_digits (digits 4 t.year ++ digits 2 t.month) (digits 2 t.day) (both_digits (digits 4 t.year) (digits 2 t.month) (digits_are 4 t.year) (digits_are 2 t.month)) (digits_are 2 t.day) in
    let time = both_digits (digits 2 t.hour ++ digits 2 t.minute) (digits 2 t.second) (both_digits (digits 2 t.hour) (digits 2 t.minute) (digits_are 2 t.hour) (digits_are 2 t.minute)) (digits_are 2 t.second) in
    and_from _ _ (and_from _ _ refl date) time

time_of-text : (t : CivilTime) → is_civil t ≡ true → time_of (text_of_time t) ≡ Some t
time_of-text t h =
    let fields = fields-text t h in
    ap (λ b. cond b (if_civil (fields_of (take 8 (text_of_time t)) (drop 9 (text_of_time t)))) None) (form-text t)
    ∙ ap if_civil fields ∙ ap (λ b. cond b (Some t) None) h

civil_read : (text : List ℕ) (t : CivilTime) → time_of text ≡ Some t → is_civil t ≡ true
civil_read text t h =
    let c = chosen_some (is_time_form text) (if_civil (fields_of (take 8 text) (drop 9 text))) t h in
    let v = chosen_some (is_civil (fields_of (take 8 text) (drop 9 text))) (Some (fields_of (take 8 text) (drop 9 text))) t c.value in
    ap is_civil (sym (some_same _ _ v.value)) ∙ v.test

pub exact_text : IsExactText
exact_text text t =
    (λ h. (civil_read text t h, text_of_time-time_of text t h), λ p. ap time_of p.1 ∙ time_of-text t p.0)
