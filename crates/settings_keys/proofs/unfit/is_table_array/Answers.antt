use Rattle.settings_keys.proofs.Items.{table_array-view}
use Rattle.settings_keys.proofs.unfit.is_table_array.Goals as goal

pub returns : goal.returns
returns c =
    rw (table_array-view _ c.items_in.result.now c.items_in.ensures, ← c.is_array.ensures, c.if-not-is_array.false) c.are_tables.ensures
