use Rattle.std.proofs.Common.{◌∙◌, ap, sym}
use Rattle.std.specs.Map.{lookup}
use Rattle.row_tables.specs.Stored.{shown_rows}
use Rattle.row_tables.proofs.Places.{at_key, removed}
use Rattle.row_tables.proofs.files.remove_file.Goals as goal

pub returns : goal.returns
returns c =
    ap shown_rows c.remove.ensures.entries
    ∙ removed c.args.place.now c.args.rows.now.entries (ap (λ es. lookup (at_key c.args.place.now) es) (sym c.remove.ensures.entries) ∙ c.remove.ensures.updates.1)
