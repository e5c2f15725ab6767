-- The number that digits give, digit by digit.
use Rattle.std.proofs.Common.{ℕ, ◌≡◌, ◌<◌, ◌≤◌, ◌+◌, ◌*◌, ◌^◌, ◌∙◌, List, length, take, get_or, arith, ap, sym}
use Rattle.std.proofs.Math.Nat.{mul-le-mul_left, pow-le-pow_right, pow-suc}
use Rattle.std.specs.Char.{digit_value}
use Rattle.std.specs.Str.Parse.{digits_value}
use Rattle.std.proofs.lemmas.Int.Digits.{digits_value_more}
use Rattle.std.proofs.Common.{add-one}

pub digit_step : (n r d i s e : ℕ) → s ≡ r → e ≡ d → n + 1 ≤ 16 ^ i → r ≤ 16 → d < r → n * s + e + 1 ≤ 16 ^ (i + 1)
digit_step n r d i s e same_s same_e small base digit =
    let power : 16 ^ (i + 1) ≡ 16 ^ i * 16 = rw add-one (pow-suc 16 i) in
    let product : n * s ≤ n * 16 = mul-le-mul_left n (omega arith) in
    omega (arith, power, product)

pub power_small : (i : ℕ) → i ≤ 8 → 16 ^ i ≤ 16 ^ 8
power_small i h = pow-le-pow_right (omega arith) h

pub digit_value_step : (n r s e : ℕ) (ds : List ℕ) (i : ℕ) → i < length ds → n ≡ digits_value r (take i ds) → s ≡ r → e ≡ digit_value (get_or ds i 0) → n * s + e ≡ digits_value r (take (i + 1) ds)
digit_value_step n r s e ds i h value same_s same_e =
    ap (λ x. x * s + e) value ∙ ap (λ x. digits_value r (take i ds) * x + e) same_s
    ∙ ap (λ x. digits_value r (take i ds) * r + x) same_e ∙ sym (digits_value_more r ds i h)
