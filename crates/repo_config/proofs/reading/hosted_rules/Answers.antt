use Rattle.std.proofs.Common.{map}
use Rattle.std.proofs.lemmas.List.{map-append}
use Rattle.toml.specs.Data.{as_table}
use Rattle.repo_config.specs.Reading.{hosted_rule}
use Rattle.repo_config.proofs.Items.{kept_more}
use Rattle.repo_config.proofs.reading.hosted_rules.Goals as goal

pub loop-item-preserved : goal.loop-item-preserved
loop-item-preserved c =
    kept_more as_table (map hosted_rule) (map-append hosted_rule) c.args.items.now c.loop-item.item-index c.item-item.result _ _ c.loop-item-test.true
    c.item-item.is c.loop-item.invariant c.in_ok-push_hosted.ensures.ok
