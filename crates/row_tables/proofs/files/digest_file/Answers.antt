use Rattle.std.proofs.Common.{◌∙◌, ap, sym, refl}
use Rattle.repo_model.specs.Tables.{digested}
use Rattle.row_tables.specs.Stored.{shown_rows}
use Rattle.row_tables.proofs.Places.{rewritten, unchanged}
use Rattle.row_tables.proofs.files.digest_file.Goals as goal

pub returns-in-Some : goal.returns-in-Some
returns-in-Some c =
    ap shown_rows (c.get_mut.follows.holds _).0
    ∙ rewritten c.args.place.now (digested c.args.further) c.args.rows.now.entries c.in-Some.row.now _ c.get_mut.ensures.ordered (sym c.in-Some.ensures.value) (λ path. refl)

pub returns-in_default : goal.returns-in_default
returns-in_default c =
    ap (λ m. shown_rows m.entries) c.get_mut.follows.holds-at-none
    ∙ sym (unchanged c.args.place.now (digested c.args.further) c.args.rows.now.entries (sym c.in_default.ensures.value))
