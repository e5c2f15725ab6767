use Rattle.std.proofs.Common.{rules, tests}
use Rattle.std.proofs.lemmas.Iterator.Search.{find_from_yields_List}
use Rattle.std.proofs.lemmas.Iterator.Splits.{YieldsList-from_slice_split}
use Rattle.mvn_coords.specs.FileName.{is_filled}
use Rattle.mvn_digest.specs.Sides.{is_blank}
use Rattle.mvn_digest.proofs.sides.first_word.Goals as goal

pub returns : goal.returns
returns c =
    find_from_yields_List is_filled _ _ _ c.find.ensures.ran
    (YieldsList-from_slice_split _ is_blank c.args.line.now c.split.ensures.rest c.split.ensures.done c.split.ensures.closure (λ x b q k. search (rules, tests)))
    (λ x b q k. search (rules, tests))
