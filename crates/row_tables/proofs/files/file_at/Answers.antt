use Rattle.std.proofs.Common.{◌∙◌, ap, option_map, string_bytes}
use Rattle.row_tables.specs.Stored.{shown_row}
use Rattle.row_tables.proofs.Places.{found}
use Rattle.row_tables.proofs.files.file_at.Goals as goal

pub returns : goal.returns
returns c =
    ap (option_map (shown_row (string_bytes c.args.place.now.1))) (c.copied.ensures ∙ c.get.ensures.value)
    ∙ found c.args.place.now c.args.rows.now.entries
