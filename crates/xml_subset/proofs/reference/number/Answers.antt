use Rattle.std.proofs.Common.{ap, ◌≡◌, ◌≤◌, ◌+◌, ◌*◌, ◌^◌, ◌<◌, ◌∙◌, refl, true, arith, get_or}
use Rattle.std.specs.Char.{is_digit, digit_value}
use Rattle.std.proofs.lemmas.Bool.{and_from}
use Rattle.std.proofs.lemmas.Bool.Decides.{nat_tests}
use Rattle.std.proofs.lemmas.List.Folds.{list_all_more}
use Rattle.xml_subset.proofs.Numbers.{digit_step, digit_value_step, power_small}
use Rattle.xml_subset.proofs.reference.number.Goals as goal

pub overflow_mul-number : goal.overflow_mul-number
overflow_mul-number c =
    let i = c.loop-c.c-index in
    let n = c.loop-c.number in
    let step : n * c.from-in-loop-c.result + 0 + 1 ≤ 16 ^ (i + 1)
    = digit_step n c.args.radix 0 i c.from-in-loop-c.result 0 c.from-in-loop-c.ensures refl c.loop-c.invariant.small c.requires.at_most (omega arith) in
    let below : 16 ^ (i + 1) ≤ 16 ^ 8 = power_small (i + 1) (omega arith) in
    omega (arith, step, below)

pub overflow_add-number : goal.overflow_add-number
overflow_add-number c =
    let i = c.loop-c.c-index in
    let n = c.loop-c.number in
    let step : n * c.from-in-loop-c.result + c.from-in-loop-c-2.result + 1 ≤ 16 ^ (i + 1)
    = digit_step n c.args.radix c.in_ok-digit.digit i c.from-in-loop-c.result c.from-in-loop-c-2.result c.from-in-loop-c.ensures c.from-in-loop-c-2.ensures
    c.loop-c.invariant.small c.requires.at_most (omega (arith, c.in_ok-digit.ensures.value)) in
    let below : 16 ^ (i + 1) ≤ 16 ^ 8 = power_small (i + 1) (omega arith) in
    omega (arith, step, below)

pub loop-c-preserved : goal.loop-c-preserved
loop-c-preserved c =
    let i = c.loop-c.c-index in
    let n = c.loop-c.number in
    let ds = c.args.digits.now in
    let h = c.loop-c-test.true in
    let step : n * c.from-in-loop-c.result + c.from-in-loop-c-2.result + 1 ≤ 16 ^ (i + 1)
    = digit_step n c.args.radix c.in_ok-digit.digit i c.from-in-loop-c.result c.from-in-loop-c-2.result c.from-in-loop-c.ensures c.from-in-loop-c-2.ensures
    c.loop-c.invariant.small c.requires.at_most (omega (arith, c.in_ok-digit.ensures.value)) in
    let digit : c.from-in-loop-c-2.result ≡ digit_value (get_or ds i 0) = c.from-in-loop-c-2.ensures ∙ c.in_ok-digit.ensures.value.1 ∙ ap digit_value c.from.ensures in
    let below : digit_value (get_or ds i 0) < c.args.radix = omega (arith, c.in_ok-digit.ensures.value, digit, c.from-in-loop-c-2.ensures) in
    let passes : is_digit (get_or ds i 0) c.args.radix ≡ true = grind (arith, nat_tests) in
    record {
      value = digit_value_step n c.args.radix c.from-in-loop-c.result c.from-in-loop-c-2.result ds i h c.loop-c.invariant.value c.from-in-loop-c.ensures digit;
      digits = list_all_more (λ x. is_digit x c.args.radix) ds i 0 h ∙ and_from _ _ c.loop-c.invariant.digits passes;
      small = step;
    }

pub overflow_cast-result : goal.overflow_cast-result
overflow_cast-result c =
    let below : 16 ^ c.loop-c.c-index ≤ 16 ^ 8 = power_small c.loop-c.c-index (omega arith) in
    omega (arith, below)
