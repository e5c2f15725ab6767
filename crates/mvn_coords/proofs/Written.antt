-- Times and numbers are written as they are read.
use Rattle.std.proofs.Common.{◌≡◌, ℕ, zero, suc, ◌+◌, ◌-◌, ◌*◌, ◌/◌, ◌%◌, ◌^◌, ◌<◌, ◌≤◌, true, false, not, eqb, nat_le, nat_lt, List, [], ◌∷◌, ◌++◌, length, get_or, take, drop, Some, refl, ap, sym, ◌∙◌, arith, lit<, add-zero, add-suc}
use Rattle.std.specs.Char.{is_ascii_digit}
use Rattle.std.specs.List.{starts_with}
use Rattle.std.proofs.lemmas.Bool.{and_parts, eqb-true, leb-true, not-true, false≢true, ne_eqb}
use Rattle.std.proofs.lemmas.List.{take-append-drop, length-take-le, length-drop, drop_more, append_assoc, length_push, drop-drop, nil_from_length, take_all}
use Rattle.std.proofs.lemmas.List.Folds.{list_all-append}
use Rattle.std.proofs.Math.Nat.{pow-suc, pow-le-pow_right}
use Rattle.mvn_coords.specs.Civil.{CivilTime, is_civil, time_of, is_time_form, fields_of, if_civil, text_of_time, digits, decimal, are_digits}
use Rattle.mvn_coords.specs.FileName.{number_of}
use Rattle.byte_cuts.specs.Cuts.{significant}
use Rattle.mvn_coords.proofs.Digits.{decimal_push, digit_bounds, are_digits-take, are_digits-drop, decimal_below}
use Rattle.mvn_coords.proofs.Results.{chosen_some, some_same}

-- a list is empty, or has a last element
data Ended : List ℕ → Type 0 where
  none : Ended []
  more : (xs : List ℕ) (x : ℕ) → Ended (xs ++ x ∷ [])

ended : (xs : List ℕ) → Ended xs
ended [] = none
ended (x ∷ xs) = onto x (ended xs)
  where
    onto : (x : ℕ) {xs : List ℕ} → Ended xs → Ended (x ∷ xs)
    onto x none = more [] x
    onto x (more xs y) = more (x ∷ xs) y

-- one more digit at the end
digits_ended : (n : ℕ) (ds : List ℕ) → ((xs : List ℕ) → length xs ≡ n → are_digits xs ≡ true → digits n (decimal xs) ≡ xs) → length ds ≡ suc n → are_digits ds ≡ true → Ended ds → digits (suc n) (decimal ds) ≡ ds
digits_ended n ds ih e h none = absurd (omega arith)
digits_ended n ds ih e h (more xs d) =
    let p = and_parts (are_digits xs) (are_digits (d ∷ [])) (sym (list_all-append is_ascii_digit xs (d ∷ [])) ∙ h) in
    let low = digit_bounds d (and_parts (is_ascii_digit d) true p.1).0 in
    let size : length xs ≡ n = omega (arith, length_push xs d) in
    let value = decimal_push xs d in
    let front : decimal (xs ++ d ∷ []) / 10 ≡ decimal xs = omega (arith, value) in
    let last : 48 + decimal (xs ++ d ∷ []) % 10 ≡ d = omega (arith, value) in
    rw (front, last, ih xs size p.0) refl

-- the number that digits write has these digits
pub digits-decimal : (n : ℕ) (ds : List ℕ) → length ds ≡ n → are_digits ds ≡ true → digits n (decimal ds) ≡ ds
digits-decimal zero ds e h = sym (nil_from_length ds e)
digits-decimal (suc n) ds e h = digits_ended n ds (λ xs. digits-decimal n xs) e h (ended ds)

-- a date and a time are written by the digits of their fields
eight : (d : List ℕ) → length d ≡ 8 → take 4 d ++ take 2 (drop 4 d) ++ take 2 (drop 6 d) ≡ d
eight d e =
    let rest : drop 2 (drop 4 d) ≡ drop 6 d = drop-drop 2 4 d in
    let all : take 2 (drop 6 d) ≡ drop 6 d = take_all 2 (drop 6 d) (omega (arith, length-drop 6 d)) in
    append_assoc (take 4 d) (take 2 (drop 4 d)) (take 2 (drop 6 d))
    ∙ ap (λ v. take 4 d ++ v) (ap (λ v. take 2 (drop 4 d) ++ v) (all ∙ sym rest) ∙ take-append-drop 2 (drop 4 d))
    ∙ take-append-drop 4 d

six : (d : List ℕ) → length d ≡ 6 → take 2 d ++ take 2 (drop 2 d) ++ take 2 (drop 4 d) ≡ d
six d e =
    let rest : drop 2 (drop 2 d) ≡ drop 4 d = drop-drop 2 2 d in
    let all : take 2 (drop 4 d) ≡ drop 4 d = take_all 2 (drop 4 d) (omega (arith, length-drop 4 d)) in
    append_assoc (take 2 d) (take 2 (drop 2 d)) (take 2 (drop 4 d))
    ∙ ap (λ v. take 2 d ++ v) (ap (λ v. take 2 (drop 2 d) ++ v) (all ∙ sym rest) ∙ take-append-drop 2 (drop 2 d))
    ∙ take-append-drop 2 d

regrouped : (a b c x y z : List ℕ) → a ++ b ++ c ++ (46 ∷ []) ++ x ++ y ++ z ≡ (a ++ b ++ c) ++ 46 ∷ (x ++ y ++ z)
regrouped a b c x y z = simp append_assoc

-- n digits from place i on, as the number that they write
part : (i n : ℕ) (d : List ℕ) → are_digits d ≡ true → i + n ≤ length d → digits n (decimal (take n (drop i d))) ≡ take n (drop i d)
part i n d h l =
    digits-decimal n (take n (drop i d)) (length-take-le n (drop i d) (omega (arith, length-drop i d))) (are_digits-take n (drop i d) (are_digits-drop i d h))

time_written : (d m : List ℕ) → length d ≡ 8 → length m ≡ 6 → are_digits d ≡ true → are_digits m ≡ true → text_of_time (fields_of d m) ≡ d ++ 46 ∷ m
time_written d m e f h k =
    let year = part 0 4 d h (omega arith) in
    let month = part 4 2 d h (omega arith) in
    let day = part 6 2 d h (omega arith) in
    let hour = part 0 2 m k (omega arith) in
    let minute = part 2 2 m k (omega arith) in
    let second = part 4 2 m k (omega arith) in
    let fields : text_of_time (fields_of d m) ≡ take 4 d ++ take 2 (drop 4 d) ++ take 2 (drop 6 d) ++ (46 ∷ []) ++ take 2 m ++ take 2 (drop 2 m) ++ take 2 (drop 4 m) = λ i. year i ++ month i ++ day i ++ (46 ∷ []) ++ hour i ++ minute i ++ second i in
    fields
    ∙ regrouped (take 4 d) (take 2 (drop 4 d)) (take 2 (drop 6 d)) (take 2 m) (take 2 (drop 2 m)) (take 2 (drop 4 m))
    ∙ ap (λ v. v ++ 46 ∷ (take 2 m ++ take 2 (drop 2 m) ++ take 2 (drop 4 m))) (eight d e)
    ∙ ap (λ v. d ++ 46 ∷ v) (six m f)

pub text_of_time-time_of : (text : List ℕ) (t : CivilTime) → time_of text ≡ Some t → text ≡ text_of_time t
text_of_time-time_of text t h =
    let c = chosen_some (is_time_form text) (if_civil (fields_of (take 8 text) (drop 9 text))) t h in
    let v = chosen_some (is_civil (fields_of (take 8 text) (drop 9 text))) (Some (fields_of (take 8 text) (drop 9 text))) t c.value in
    let same : fields_of (take 8 text) (drop 9 text) ≡ t = some_same _ _ v.value in
    let p = and_parts _ (are_digits (drop 9 text)) c.test in
    let q = and_parts _ (are_digits (take 8 text)) p.0 in
    let r = and_parts (eqb (length text) 15) _ q.0 in
    let size : length text ≡ 15 = eqb-true _ 15 r.0 in
    let dot : get_or text 8 0 ≡ 46 = eqb-true _ 46 r.1 in
    let rest : drop 8 text ≡ 46 ∷ drop 9 text = drop_more text 8 0 (omega arith) ∙ ap (λ b. b ∷ drop 9 text) dot in
    sym (take-append-drop 8 text) ∙ ap (λ v. take 8 text ++ v) rest
    ∙ sym (time_written (take 8 text) (drop 9 text) (length-take-le 8 text (omega arith)) (omega (arith, length-drop 9 text)) q.1 p.1)
    ∙ ap text_of_time same

-- leading zeros
lead : (n x : ℕ) → x < 10 ^ n → digits (suc n) x ≡ 48 ∷ digits n x
lead zero x h = let none : x ≡ 0 = omega (arith, h) in rw none refl
lead (suc n) x h =
    let p : 10 ^ suc n ≡ 10 ^ n * 10 = pow-suc 10 n in
    ap (λ v. v ++ (48 + x % 10) ∷ []) (lead n (x / 10) (omega arith))

zeros_first : (k n x : ℕ) → x < 10 ^ n → significant (digits (n + k) x) ≡ significant (digits n x)
zeros_first zero n x h = rw add-zero refl
zeros_first (suc k) n x h =
    let more : 10 ^ n ≤ 10 ^ (n + k) = pow-le-pow_right {n = 10} (lit< tt) (omega arith) in
    rw (add-suc n k) (ap significant (lead (n + k) x (omega arith)) ∙ zeros_first k n x h)

no_zero : (run : List ℕ) → starts_with eqb run (48 ∷ []) ≡ false → significant run ≡ run
no_zero [] h = refl
no_zero (d ∷ ds) h = rw (ne_eqb d 48 (λ e. false≢true (sym h ∙ rw e refl))) refl

pub number_written : (run : List ℕ) (n : ℕ) → number_of run ≡ Some n → run ≡ significant (digits 9 n)
number_written run n h =
    let c = chosen_some _ (Some (decimal run)) n h in
    let p = and_parts _ (not (starts_with eqb run (48 ∷ []))) c.test in
    let q = and_parts _ (are_digits run) p.0 in
    let r = and_parts (nat_lt 0 (length run)) (nat_le (length run) 9) q.0 in
    let size : length run ≤ 9 = leb-true _ 9 r.1 in
    let same : decimal run ≡ n = some_same _ _ c.value in
    let small : decimal run < 10 ^ length run = decimal_below run q.1 in
    let nine : length run + (9 - length run) ≡ 9 = omega arith in
    let whole : digits (length run) (decimal run) ≡ run = digits-decimal (length run) run refl q.1 in
    sym (no_zero run (not-true _ p.1)) ∙ ap significant (sym whole)
    ∙ sym (zeros_first (9 - length run) (length run) (decimal run) small)
    ∙ rw (nine, same) refl
