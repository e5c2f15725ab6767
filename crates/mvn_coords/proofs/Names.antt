-- Where the digits of a file's name end, and what they write.
use Rattle.std.proofs.Common.{◌≡◌, ℕ, zero, suc, ◌+◌, ◌-◌, ◌*◌, ◌^◌, ◌<◌, ◌≤◌, Bool, true, false, cond, not, eqb, ltb, List, [], ◌∷◌, length, get_or, take, drop, fold, Option, Some, None, refl, sym, ◌∙◌, arith, lit<, add-one, unwrap_or, IsSome, IfSome, MatchOption, ◌↔◌, Bor}
use Rattle.std.specs.Str.{IsUtf8, IsCharBoundary}
use Rattle.std.specs.Char.{is_ascii_digit}
use Rattle.std.specs.List.{position_or_len, starts_with}
use Rattle.std.proofs.lemmas.Str.{IsCharBoundary-start, IsCharBoundary-after_ascii}
use Rattle.std.proofs.lemmas.Bool.{and_parts, eqb-true, ltb-false, not-false, false≢true, and_from, le-leb}
use Rattle.std.proofs.lemmas.List.{get_or-take, length-take, length-drop, get_or-drop}
use Rattle.std.proofs.Math.Nat.{pow-le-pow_right}
use Rattle.std.proofs.lemmas.List.Sums.{fails_before_first, prefix_len-le-length}
use Rattle.mvn_coords.specs.Civil.{decimal, are_digits, time_of, is_time_form, fields_of, if_civil}
use Rattle.mvn_coords.specs.FileName.{digit_count, is_no_digit, is_build_number}
use Rattle.mvn_coords.proofs.Digits.{digit_at, digit_bounds}

pub digit_count_is : (bs : List ℕ) → digit_count bs ≡ position_or_len is_no_digit bs
digit_count_is bs = by_place (ltb (position_or_len is_no_digit bs) (length bs)) refl
  where
    by_place : (t : Bool) → ltb (position_or_len is_no_digit bs) (length bs) ≡ t → unwrap_or (cond t (Some (position_or_len is_no_digit bs)) None) (length bs) ≡ position_or_len is_no_digit bs
    by_place true e = refl
    by_place false e = omega (arith, ltb-false _ _ e, prefix_len-le-length (λ b. not (is_no_digit b)) bs)

-- a text may be cut after the digits at its front
pub digits_boundary : (bs : List ℕ) → IsUtf8 bs → IsCharBoundary bs (digit_count bs)
digits_boundary bs u = rw (digit_count_is bs) (at (position_or_len is_no_digit bs) refl)
  where
    at : (n : ℕ) → position_or_len is_no_digit bs ≡ n → IsCharBoundary bs n
    at zero e = IsCharBoundary-start bs u
    at (suc n) e =
        let inside : suc n ≤ length bs = omega (arith, e, prefix_len-le-length (λ b. not (is_no_digit b)) bs) in
        let digit : is_ascii_digit (get_or bs n 0) ≡ true = not-false _ (fails_before_first is_no_digit bs n 0 (omega arith)) in
        let low = digit_bounds (get_or bs n 0) digit in
        rw add-one at (IsCharBoundary-after_ascii bs n u (omega arith) (omega arith))

-- a text that may not be cut after 15 bytes has no stamp there
pub no_stamp : (bs : List ℕ) → IsUtf8 bs → (IsCharBoundary bs 15 → ⊥) → time_of (take 15 bs) ≡ None
no_stamp bs u h = by_form (is_time_form (take 15 bs)) refl
  where
    by_form : (t : Bool) → is_time_form (take 15 bs) ≡ t → cond t (if_civil (fields_of (take 8 (take 15 bs)) (drop 9 (take 15 bs)))) None ≡ None
    by_form false e = refl
    by_form true e =
        let a = and_parts _ (are_digits (drop 9 (take 15 bs))) e in
        let b = and_parts _ (are_digits (take 8 (take 15 bs))) a.0 in
        let c = and_parts (eqb (length (take 15 bs)) 15) _ b.0 in
        let size : length (take 15 bs) ≡ 15 = eqb-true _ 15 c.0 in
        let inside : 15 ≤ length bs = omega (arith, length-take 15 bs, size) in
        let last = digit_at (drop 9 (take 15 bs)) 5 a.1 (omega (arith, length-drop 9 (take 15 bs), size)) in
        let same : get_or (drop 9 (take 15 bs)) 5 0 ≡ get_or bs 14 0 = get_or-drop 9 (take 15 bs) 5 0 ∙ get_or-take 15 bs 14 0 (lit< tt) in
        absurd (h (IsCharBoundary-after_ascii bs 14 u (omega arith) (omega (arith, last, same))))

pub stamp_cut : (bs : List ℕ) (r : Option (Bor (List ℕ) × Bor (List ℕ))) → IsUtf8 bs → IsSome r ↔ IsCharBoundary bs 15 → IfSome r (λ x. x.0.now ≡ take 15 bs) → IfSome r (λ x. x.1.now ≡ drop 15 bs)
    → MatchOption r (time_of (take 15 bs) ≡ None) (λ x. (x.0.now ≡ take 15 bs) × (x.1.now ≡ drop 15 bs))
stamp_cut bs None u v front back = no_stamp bs u (λ b. false≢true (v.1 b))
stamp_cut bs (Some x) u v front back = (front, back)

-- a number without a leading zero is not 0
fold_from : (ds : List ℕ) (x : ℕ) → x ≤ fold (λ n d. n * 10 + (d - 48)) x ds
fold_from [] x = omega arith
fold_from (d ∷ ds) x = omega (arith, fold_from ds (x * 10 + (d - 48)))

pub some_number : (ds : List ℕ) → are_digits ds ≡ true → 0 < length ds → starts_with eqb ds (48 ∷ []) ≡ false → 1 ≤ decimal ds
some_number [] h l z = absurd (omega arith)
some_number (d ∷ ds) h l z =
    let low = digit_bounds d (and_parts (is_ascii_digit d) (are_digits ds) h).0 in
    let other : d ≡ 48 → ⊥ = λ e. false≢true (sym z ∙ rw e refl) in
    omega (arith, low, other, fold_from ds (0 * 10 + (d - 48)))

pub number_range : (ds : List ℕ) (n : ℕ) → are_digits ds ≡ true → 0 < length ds → length ds ≤ 9 → starts_with eqb ds (48 ∷ []) ≡ false → n ≡ decimal ds → n < 10 ^ length ds → is_build_number n ≡ true
number_range ds n h l m z e b =
    let top : 10 ^ length ds ≤ 1_000_000_000 = pow-le-pow_right {n = 10} (lit< tt) {j = 9} m in
    and_from _ _ (le-leb 1 n (omega (arith, some_number ds h l z))) (le-leb n 999_999_999 (omega arith))
