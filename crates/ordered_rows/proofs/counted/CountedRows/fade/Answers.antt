use Rattle.std.proofs.Common.{sym, ap, ◌∙◌, refl, subst}
use Rattle.repo_model.specs.Effect.{fade as faded}
use Rattle.repo_model.specs.State.{change_where, is_row}
use Rattle.ordered_rows.specs.Homes.{AreHomed}
use Rattle.ordered_rows.specs.Rows.{shown_rows}
use Rattle.ordered_rows.proofs.CountLemmas.{at_least, faded_one}
use Rattle.ordered_rows.proofs.HomeLemmas.{HomedIn}
use Rattle.ordered_rows.proofs.EachRow.{each-changed}
use Rattle.ordered_rows.proofs.MapLemmas.{rewritten, unwritten}
use Rattle.ordered_rows.proofs.counted.CountedRows.fade.Goals as goal

pub overflow_sub-self : goal.overflow_sub-self
overflow_sub-self g c =
    at_least c.args.path.now c.self.inside.map.entries c.self.inside.map.entries c.self.inside.fading c.weight.result c.self.invariant.counted c.in-Some.row.now c.weight.ensures (sym c.in-Some.ensures.value)

pub invariant_of-self : goal.invariant_of-self
invariant_of-self g c =
    let path = c.args.path.now in
    let es = c.self.inside.map.entries in
    let homes = c.self.inside.homes.keys in
    record {
      counted = faded_one c.args.path.now c.self.inside.map.entries _ c.self.inside.fading c.weight.result c.self.invariant.counted c.in-Some.row.now _ c.weight.ensures refl (sym c.in-Some.ensures.value)
          (c.get_mut.follows.holds _).0;
      homed = subst (AreHomed homes)
          (sym (ap shown_rows (c.get_mut.follows.holds _).0 ∙ rewritten path (faded c.args.moment) es c.in-Some.row.now _ c.get_mut.ensures.ordered (sym c.in-Some.ensures.value) refl))
          (each-changed (HomedIn homes) (is_row path) (faded c.args.moment) (λ row is h. h) (shown_rows es) c.self.invariant.homed);
    }

pub returns-in-Some : goal.returns-in-Some
returns-in-Some g c =
    ap shown_rows (c.get_mut.follows.holds _).0
    ∙ rewritten c.args.path.now (faded c.args.moment) c.self.inside.map.entries c.in-Some.row.now _ c.get_mut.ensures.ordered (sym c.in-Some.ensures.value) refl
    ∙ ap (change_where (is_row c.args.path.now) (faded c.args.moment)) c.self.view_is

pub returns-in_default : goal.returns-in_default
returns-in_default g c =
    ap (λ m. shown_rows m.entries) c.get_mut.follows.holds-at-none
    ∙ unwritten c.args.path.now (faded c.args.moment) c.self.inside.map.entries (sym c.in_default.ensures.value)
    ∙ ap (change_where (is_row c.args.path.now) (faded c.args.moment)) c.self.view_is
