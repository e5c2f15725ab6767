use Rattle.std.proofs.Common.{filter}
use Rattle.std.proofs.lemmas.List.Elements.{filter-append}
use Rattle.toml.specs.Data.{as_str}
use Rattle.path_patterns.specs.Pattern.{is_pattern}
use Rattle.repo_config.proofs.Items.{kept_more}
use Rattle.repo_config.proofs.reading.patterns_in.Goals as goal

pub loop-item-preserved : goal.loop-item-preserved
loop-item-preserved c =
    kept_more as_str (filter is_pattern) (filter-append is_pattern) c.items_in-items.result.now c.loop-item.item-index c.item-item.result _ _
    c.loop-item-test.true c.item-item.is c.loop-item.invariant c.in_ok-add_pattern.ensures.ok
