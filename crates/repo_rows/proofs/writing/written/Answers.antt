use Rattle.std.proofs.Common.{◌<◌, ◌^◌, length, sym, subst, arith}
use Rattle.row_tables.specs.Items.{IsChange}
use Rattle.repo_rows.proofs.Changes.{few}
use Rattle.repo_rows.proofs.Sized.{are_sized}
use Rattle.repo_rows.proofs.writing.written.Goals as goal

pub overflow_cast-items : goal.overflow_cast-items
overflow_cast-items c =
    let is : IsChange c.items-items.result.now = subst IsChange (sym c.items-items.ensures.items) c.items-items.ensures.form in
    let low : length c.items-items.result.now < 2 ^ 32 = few c.items-items.result.now is.size in
    record { fits = omega (arith, low) }

pub put_items-requires : goal.put_items-requires
put_items-requires c =
    let is : IsChange c.items-items.result.now = subst IsChange (sym c.items-items.ensures.items) c.items-items.ensures.form in
    are_sized c.items-items.result.now is.form
