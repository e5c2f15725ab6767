use Rattle.std.proofs.Common.{sym, ap, ◌∙◌, subst}
use Rattle.repo_model.specs.Effect.{with_row}
use Rattle.repo_model.specs.State.{row_at}
use Rattle.ordered_rows.specs.Homes.{AreHomed}
use Rattle.ordered_rows.specs.Rows.{shown_at, shown_rows}
use Rattle.ordered_rows.proofs.CountLemmas.{added, count}
use Rattle.ordered_rows.proofs.EachRow.{each-with}
use Rattle.ordered_rows.proofs.HomeLemmas.{HomedIn, homed-kept}
use Rattle.ordered_rows.proofs.MapLemmas.{inserted}
use Rattle.ordered_rows.proofs.counted.CountedRows.add.Goals as goal

pub invariant_of-self : goal.invariant_of-self
invariant_of-self g c = record {
  counted = c.self.invariant.counted;
  homed = homed-kept c.self.inside.homes.keys c.add_home.new.homes.keys c.add_home.ensures.kept (shown_rows c.self.inside.map.entries) c.self.invariant.homed;
}

pub invariant_of-self-in-Err-insert : goal.invariant_of-self-in-Err-insert
invariant_of-self-in-Err-insert g c =
    let after = c.add_home.new.homes.keys in
    let same = c.in-Err-insert.ensures.err in
    record {
      counted = c.self.invariant.counted ∙ sym (ap (λ es. count (shown_rows es)) same);
      homed = subst (λ es. AreHomed after (shown_rows es)) (sym same) (homed-kept c.self.inside.homes.keys after c.add_home.ensures.kept (shown_rows c.self.inside.map.entries) c.self.invariant.homed);
    }

pub invariant_of-self-in-Ok-insert : goal.invariant_of-self-in-Ok-insert
invariant_of-self-in-Ok-insert g c =
    let path = c.args.path.now in
    let es = c.self.inside.map.entries in
    let homes = c.self.inside.homes.keys in
    let after = c.add_home.new.homes.keys in
    let none = ap (row_at path) c.self.view_is ∙ c.requires in
    let made = ap shown_rows c.in-Ok-insert.ensures.entries ∙ inserted path c.in-Ok.key c.args.row es c.in-Ok.ensures.ok none in
    record {
      counted = added path es c.insert.new.self.entries c.self.inside.fading c.weight-more.result c.self.invariant.counted c.args.row c.weight-more.ensures made;
      homed = subst (AreHomed after) (sym made)
          (each-with (HomedIn after) (shown_at path c.args.row) (shown_rows es) c.in_default-add_home.ensures.added (homed-kept homes after c.add_home.ensures.kept (shown_rows es) c.self.invariant.homed));
    }

pub returns-in-Ok-insert-clause-ok : goal.returns-in-Ok-insert-clause-ok
returns-in-Ok-insert-clause-ok g c =
    let path = c.args.path.now in
    let es = c.self.inside.map.entries in
    let none = ap (row_at path) c.self.view_is ∙ c.requires in
    ap shown_rows c.in-Ok-insert.ensures.entries ∙ inserted path c.in-Ok.key c.args.row es c.in-Ok.ensures.ok none
    ∙ ap (with_row (shown_at path c.args.row)) c.self.view_is
