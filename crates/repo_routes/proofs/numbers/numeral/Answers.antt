use Rattle.std.proofs.Common.{◌≡◌, ◌≤◌, ◌∙◌, sym, true, ◌+◌, length, take, arith, get_or}
use Rattle.std.specs.Char.{is_ascii_digit, digit_value}
use Rattle.std.specs.List.{list_all}
use Rattle.std.proofs.lemmas.Bool.{and_from}
use Rattle.std.proofs.lemmas.Bool.Decides.{nat_tests}
use Rattle.std.proofs.lemmas.Int.Digits.{digits_value_more}
use Rattle.std.proofs.lemmas.List.{length-take-le}
use Rattle.std.proofs.lemmas.List.Folds.{list_all_at, list_all_more}
use Rattle.repo_routes.proofs.NumberLemmas.{no_numeral, number_small}
use Rattle.repo_routes.proofs.numbers.numeral.Goals as goal

pub returns-then-not-is_ascii_digit : goal.returns-then-not-is_ascii_digit
returns-then-not-is_ascii_digit c =
    no_numeral c.args.text.now (list_all_at is_ascii_digit c.args.text.now c.loop-b.b-index 0 c.loop-b-test.true (sym c.if-not-is_ascii_digit.ensures.value))

pub loop-b-preserved : goal.loop-b-preserved
loop-b-preserved c =
    let text = c.args.text.now in
    let i = c.loop-b.b-index in
    let digit : digit_value (get_or text i 0) ≡ c.from.result = grind (arith, nat_tests) in
    let next = digits_value_more 10 text i c.loop-b-test.true in
    let digits : list_all is_ascii_digit (take (i + 1) text) ≡ true
    = list_all_more is_ascii_digit text i 0 c.loop-b-test.true ∙ and_from _ _ c.loop-b.invariant.digits (sym c.if-not-is_ascii_digit.ensures.value) in
    record {
      value = omega (arith, next, digit, c.loop-b.invariant.value);
      digits = digits;
      small = λ early.
          let short : length (take (i + 1) text) ≤ 18 = omega (arith, length-take-le (i + 1) text) in
          let small = number_small (take (i + 1) text) digits short in omega (arith, next, digit, c.loop-b.invariant.value, small);
    }
