-- Decimal digits: what they write, and how a number is written.
use Rattle.std.proofs.Common.{◌≡◌, ℕ, zero, suc, ◌+◌, ◌-◌, ◌*◌, ◌/◌, ◌%◌, ◌^◌, ◌<◌, ◌≤◌, true, leb, List, [], ◌∷◌, ◌++◌, length, get_or, take, drop, fold, refl, ap, sym, ◌∙◌, arith, add-one}
use Rattle.std.specs.Char.{is_ascii_digit}
use Rattle.std.proofs.lemmas.Bool.{and_parts, leb-true}
use Rattle.std.proofs.lemmas.List.{length_push, take-append-drop}
use Rattle.std.proofs.lemmas.List.Folds.{list_all-append}
use Rattle.std.proofs.Math.Nat.{pow-suc, mul-le-mul_right, mul-one}
use Rattle.std.proofs.lemmas.List.Sums.{fold_push}
use Rattle.mvn_coords.specs.Civil.{decimal, digits, are_digits}

-- a digit's code
pub digit_bounds : (d : ℕ) → is_ascii_digit d ≡ true → (48 ≤ d) × (d ≤ 57)
digit_bounds d h = let p = and_parts (leb 48 d) (leb d 57) h in (leb-true 48 d p.0, leb-true d 57 p.1)

pub digit_at : (ds : List ℕ) (i : ℕ) → are_digits ds ≡ true → i < length ds → (48 ≤ get_or ds i 0) × (get_or ds i 0 ≤ 57)
digit_at [] i h l = absurd (omega arith)
digit_at (d ∷ ds) zero h l = digit_bounds d (and_parts (is_ascii_digit d) (are_digits ds) h).0
digit_at (d ∷ ds) (suc i) h l = digit_at ds i (and_parts (is_ascii_digit d) (are_digits ds) h).1 (omega arith)

pub decimal_push : (ds : List ℕ) (d : ℕ) → decimal (ds ++ d ∷ []) ≡ decimal ds * 10 + (d - 48)
decimal_push ds d = fold_push (λ x d. x * 10 + (d - 48)) 0 ds d

are_digits-append : (xs ys : List ℕ) → are_digits (xs ++ ys) ≡ true → (are_digits xs ≡ true) × (are_digits ys ≡ true)
are_digits-append xs ys h = and_parts (are_digits xs) (are_digits ys) (sym (list_all-append is_ascii_digit xs ys) ∙ h)

pub are_digits-take : (n : ℕ) (ds : List ℕ) → are_digits ds ≡ true → are_digits (take n ds) ≡ true
are_digits-take n ds h = (are_digits-append (take n ds) (drop n ds) (ap are_digits (take-append-drop n ds) ∙ h)).0

pub are_digits-drop : (n : ℕ) (ds : List ℕ) → are_digits ds ≡ true → are_digits (drop n ds) ≡ true
are_digits-drop n ds h = (are_digits-append (take n ds) (drop n ds) (ap are_digits (take-append-drop n ds) ∙ h)).1

-- the last digits of a number are those that write it
pub length-digits : (n x : ℕ) → length (digits n x) ≡ n
length-digits zero x = refl
length-digits (suc n) x = length_push (digits n (x / 10)) (48 + x % 10) ∙ ap (λ k. k + 1) (length-digits n (x / 10)) ∙ add-one n

pub decimal-digits : (n x : ℕ) → x < 10 ^ n → decimal (digits n x) ≡ x
decimal-digits zero x h = omega (arith, h)
decimal-digits (suc n) x h =
    let p : 10 ^ suc n ≡ 10 ^ n * 10 = pow-suc 10 n in
    let ih = decimal-digits n (x / 10) (omega arith) in
    decimal_push (digits n (x / 10)) (48 + x % 10) ∙ rw ih (omega arith)

-- digits write a number below ten to the power of their count
fold_below : (ds : List ℕ) (x : ℕ) → are_digits ds ≡ true → fold (λ n d. n * 10 + (d - 48)) x ds < (x + 1) * 10 ^ length ds
fold_below [] x h = omega (arith, mul-one (x + 1))
fold_below (d ∷ ds) x h =
    let p = and_parts (is_ascii_digit d) (are_digits ds) h in
    let low = digit_bounds d p.0 in
    let ih = fold_below ds (x * 10 + (d - 48)) p.1 in
    let next : 10 ^ suc (length ds) ≡ 10 ^ length ds * 10 = pow-suc 10 (length ds) in
    let wider : (x * 10 + (d - 48) + 1) * 10 ^ length ds ≤ ((x + 1) * 10) * 10 ^ length ds = mul-le-mul_right (10 ^ length ds) (omega arith) in
    let same : ((x + 1) * 10) * 10 ^ length ds ≡ (x + 1) * (10 ^ length ds * 10) = grind arith in
    rw next (omega (arith, ih, wider, same))

pub decimal_below : (ds : List ℕ) → are_digits ds ≡ true → decimal ds < 10 ^ length ds
decimal_below ds h = omega (arith, fold_below ds 0 h)
