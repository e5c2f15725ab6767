use Rattle.std.proofs.Common.{◌≡◌, ◌∙◌, ◌++◌, ap, sym, subst, Ok}
use Rattle.repo_model.specs.Tables.{no_tables, applied}
use Rattle.row_tables.specs.Applying.{with_items}
use Rattle.row_tables.specs.Recorded.{AreRecorded}
use Rattle.row_tables.specs.Records.{MemState}
use Rattle.row_tables.proofs.Applied.{recorded_more}
use Rattle.row_tables.proofs.memory.MemRecordsRecords.commit.Goals as goal

pub invariant_of-self-2 : goal.invariant_of-self-2
invariant_of-self-2 c =
    let before = c.self.inside.items.items in
    let same : c.args.self.now.items ≡ before = ap (λ (v : MemState). v.items) (sym c.self.view_is) in
    let fits : applied (with_items no_tables before) c.args.change.now ≡ Ok (with_items (with_items no_tables before) c.args.change.now) =
    subst (λ items. applied (with_items no_tables items) c.args.change.now ≡ Ok (with_items (with_items no_tables items) c.args.change.now)) same c.requires.fits in
    let change : c.in_ok-items.items.items ≡ c.args.change.now = c.in_ok-items.ensures ∙ c.items.ensures.items in
    let all : c.append.new.self.items ≡ before ++ c.args.change.now = c.in_ok-append.ensures.items ∙ ap (λ more. before ++ more) change in
    subst AreRecorded (sym all) (recorded_more before c.args.change.now c.self.invariant c.items.ensures.form.form fits)
