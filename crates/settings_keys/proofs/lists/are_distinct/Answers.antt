use Rattle.std.proofs.Common.{sym, ◌∙◌}
use Rattle.settings_keys.proofs.Items.{first_twice-more}
use Rattle.settings_keys.proofs.lists.are_distinct.Goals as goal

pub loop-index-preserved : goal.loop-index-preserved
loop-index-preserved c =
    c.loop-index.invariant ∙ first_twice-more c.args.items.now c.loop-index.index c.index-items-index.result c.loop-index-test.true
    c.index-items-index.is (sym c.is_again.ensures ∙ c.if-is_again.false)
