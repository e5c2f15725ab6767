use Rattle.std.proofs.Common.{◌∙◌, ◌≡◌, ◌∷◌, [], ◌<◌, length, sym, arith, false, true, nat_eq}
use Rattle.std.specs.List.{starts_with}
use Rattle.std.proofs.lemmas.Str.Pattern.{starts_text}
use Rattle.std.proofs.lemmas.Grind.{common_steps}
use Rattle.mvn_coords.specs.Civil.{are_digits}
use Rattle.mvn_coords.proofs.Names.{number_range}
use Rattle.mvn_coords.proofs.build.build_number.Goals as goal

pub returns-clause-range : goal.returns-clause-range
returns-clause-range c =
    let text = c.as_bytes-digits.ensures.value in
    let first : starts_with nat_eq c.as_bytes-digits.result.now (48 ∷ []) ≡ false = rw text (sym (starts_text _ (48 ∷ []) c.args.text.now c.starts_with.ensures.cases) ∙ c.if-starts_with.false) in
    let digits : are_digits c.as_bytes-digits.result.now ≡ true = sym c.are_digits.ensures ∙ c.if-not-are_digits.false in
    let some : 0 < length c.as_bytes-digits.result.now = grind (arith, common_steps) in
    number_range c.as_bytes-digits.result.now c.decimal.result digits some (omega arith) first c.decimal.ensures.value c.decimal.ensures.bound
