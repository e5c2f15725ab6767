use Rattle.std.proofs.Common.{ℕ, List, refl}
use Rattle.toml.specs.Data.{as_str}
use Rattle.repo_config.proofs.Items.{kept_more}
use Rattle.repo_config.proofs.reading.texts_of.Goals as goal

pub loop-item-preserved : goal.loop-item-preserved
loop-item-preserved c =
    kept_more as_str (λ (texts : List (List ℕ)). texts) (λ _ _. refl) c.args.items.now c.loop-item.item-index c.item-item.result _ _ c.loop-item-test.true
    c.item-item.is c.loop-item.invariant c.in_ok-push_text.ensures.ok
