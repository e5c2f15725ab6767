use Rattle.std.proofs.Common.{sym, subst}
use Rattle.row_tables.specs.Items.{IsChange}
use Rattle.repo_rows.proofs.Fronts.{all_front}
use Rattle.repo_rows.proofs.Sized.{are_sized}
use Rattle.repo_rows.proofs.places.start_of.Goals as goal

pub put_items-requires : goal.put_items-requires
put_items-requires c =
    let is : IsChange c.items-items.result.now = subst IsChange (sym c.items-items.ensures.items) c.items-items.ensures.form in
    are_sized _ (all_front c.min-count.result c.items-items.result.now is.form)
