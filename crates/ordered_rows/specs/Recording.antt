-- Items that are recorded.
use Rattle.std.specs.Prelude.{◌≤◌, IsTrue, length}
use Rattle.repo_model.specs.declared.item.Item.{Item}
use Rattle.repo_model.specs.declared.item.Item.TheVariants.{Removed}
use Rattle.row_tables.specs.Items.{is_item, is_of, item_bytes}
use Rattle.row_tables.specs.declared.version.Version.TheVariants.{Second}

-- an item of its form that has at most 1,249 bytes; a file has its SHA-256 and SHA-512
pub record IsShort (item : Item) : Type 0 where
  pub form : IsTrue (is_item item)
  pub whole : IsTrue (is_of Second item)
  pub size : length (item_bytes item) ≤ 1249

-- an item by which a row goes
abbrev pub IsRemoved : Item → Type 0
IsRemoved (Removed repo path) = Unit {0}
IsRemoved item = ⊥
