use Rattle.std.proofs.Common.{◌&&◌, ◌==◌, rules, tests}
use Rattle.std.proofs.lemmas.Iterator.Search.{all_from_yields_List}
use Rattle.std.proofs.lemmas.Iterator.Splits.{YieldsList-from_slice_split}
use Rattle.mvn_coords.specs.Segment.{are_group_bytes, is_segment}
use Rattle.mvn_metadata.proofs.form.is_group.Goals as goal

pub returns : goal.returns
returns c =
    all_from_yields_List (λ s. is_segment s && are_group_bytes s) _ _ _ c.all.ensures.ran
    (YieldsList-from_slice_split _ (λ b. b == 46) c.args.bytes.now c.split.ensures.rest c.split.ensures.done c.split.ensures.closure (λ x b q k. search (rules, tests)))
    (λ x b q k. search (rules, tests))
