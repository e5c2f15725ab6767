use Rattle.std.proofs.Common.{◌∙◌, ap}
use Rattle.row_tables.specs.Stored.{shown_rows}
use Rattle.row_tables.proofs.Places.{inserted}
use Rattle.row_tables.proofs.files.add_file.Goals as goal

pub returns-clause-ok : goal.returns-clause-ok
returns-clause-ok c = ap shown_rows c.in_ok-insert.ensures.entries ∙ inserted c.args.place c.args.row c.args.rows.now.entries c.requires
