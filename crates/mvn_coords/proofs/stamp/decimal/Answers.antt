use Rattle.std.proofs.Common.{◌≤◌, ◌^◌, arith, lit<}
use Rattle.std.proofs.Math.Nat.{pow-le-pow_right}
use Rattle.mvn_coords.proofs.Digits.{digit_at}
use Rattle.mvn_coords.proofs.stamp.decimal.Goals as goal

pub overflow_mul-number : goal.overflow_mul-number
overflow_mul-number c =
    let bound : 10 ^ c.loop-digit.digit-index ≤ 100_000_000 = pow-le-pow_right {n = 10} (lit< tt) {j = 8} (omega arith) in
    omega arith

pub overflow_add-number : goal.overflow_add-number
overflow_add-number c =
    let bound : 10 ^ c.loop-digit.digit-index ≤ 100_000_000 = pow-le-pow_right {n = 10} (lit< tt) {j = 8} (omega arith) in
    let digit = digit_at c.args.digits.now c.loop-digit.digit-index c.requires.digits c.loop-digit-test.true in
    omega (arith, c.from.ensures)
