use Rattle.std.proofs.Common.{sym}
use Rattle.settings_keys.proofs.Items.{list_of-view}
use Rattle.settings_keys.proofs.values.items_in.Goals as goal

pub returns-in-Some : goal.returns-in-Some
returns-in-Some c = rw (c.as_slice.ensures.value, ← c.in-Some.ensures) (sym (list_of-view _))
