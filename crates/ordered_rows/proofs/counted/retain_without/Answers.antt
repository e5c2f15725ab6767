use Rattle.std.proofs.Common.{rules, refl}
use Rattle.ordered_rows.proofs.Retained.{counted_out}
use Rattle.ordered_rows.proofs.counted.retain_without.Goals as goal

pub returns : goal.returns
returns g c =
    counted_out _ (λ f. f.0.now) (λ f. f.1.now) (λ f k v b w f' t. search rules) _ _ _ c.args.count c.args.limit refl refl c.retain.ensures.filtered
