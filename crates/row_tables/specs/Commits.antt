-- The tables after items that were committed.
use Rattle.std.specs.Prelude.{List, Option}
use Rattle.std.specs.Option.{option_map}
use Rattle.repo_model.specs.declared.item.Item.{Item}
use Rattle.repo_model.specs.Tables.{Tables}
use Rattle.row_tables.specs.Applying.{with_items}

-- the tables with these items, where they are told
abbrev pub tables_with : List Item → Option Tables → Option Tables
tables_with items tables = option_map (λ t. with_items t items) tables
