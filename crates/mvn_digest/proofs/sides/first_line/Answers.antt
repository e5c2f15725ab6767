use Rattle.std.proofs.Common.{◌==◌, not, rules, tests}
use Rattle.std.proofs.lemmas.Iterator.Search.{find_from_yields_List}
use Rattle.std.proofs.lemmas.Iterator.Splits.{YieldsList-from_slice_split}
use Rattle.mvn_digest.specs.Sides.{is_blank_line}
use Rattle.mvn_digest.proofs.sides.first_line.Goals as goal

pub returns : goal.returns
returns c =
    find_from_yields_List (λ line. not (is_blank_line line)) _ _ _ c.find.ensures.ran
    (YieldsList-from_slice_split _ (λ b. b == 10) c.args.text.now c.split.ensures.rest c.split.ensures.done c.split.ensures.closure (λ x b q k. search (rules, tests)))
    (λ x b q k. search (rules, tests))
