use Rattle.std.proofs.Common.{rules}
use Rattle.row_tables.proofs.Applied.{goes_on}
use Rattle.row_tables.proofs.tables.Tables.apply_items.Goals as goal

pub loop-place-preserved : goal.loop-place-preserved
loop-place-preserved c = goes_on _ _ _ _ _ c.loop-place.invariant (search rules) c.index-items-place.is _ (search rules) (search rules)
