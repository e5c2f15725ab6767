-- Items that were recorded one after the other: each has its form and fits the tables of those before it.
use Rattle.std.specs.Prelude.{◌≡◌, IsTrue, List, Ok}
use Rattle.std.specs.List.{list_all}
use Rattle.repo_model.specs.declared.item.Item.{Item}
use Rattle.repo_model.specs.Tables.{Tables, no_tables, applied}
use Rattle.row_tables.specs.Applying.{with_items}
use Rattle.row_tables.specs.Items.{is_item}

pub record AreRecorded (items : List Item) : Type 0 where
  pub form : IsTrue (list_all is_item items)
  pub fit : applied no_tables items ≡ Ok (with_items no_tables items)

-- the tables that such items build up
pub record IsBuiltUp (t : Tables) : Type 0 where
  pub items : List Item
  pub recorded : AreRecorded items
  pub built : t ≡ with_items no_tables items
