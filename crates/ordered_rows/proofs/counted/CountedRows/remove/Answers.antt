use Rattle.std.proofs.Common.{sym, ap, ◌∙◌, subst}
use Rattle.repo_model.specs.Effect.{without_row}
use Rattle.ordered_rows.specs.Homes.{AreHomed}
use Rattle.ordered_rows.specs.Rows.{shown_rows}
use Rattle.ordered_rows.proofs.CountLemmas.{at_least, removed_one}
use Rattle.ordered_rows.proofs.HomeLemmas.{HomedIn}
use Rattle.ordered_rows.proofs.EachRow.{each-without}
use Rattle.ordered_rows.proofs.MapLemmas.{removed}
use Rattle.ordered_rows.proofs.counted.CountedRows.remove.Goals as goal

pub overflow_sub-self : goal.overflow_sub-self
overflow_sub-self g c =
    at_least c.args.path.now c.self.inside.map.entries c.self.inside.map.entries c.self.inside.fading c.weight.result c.self.invariant.counted c.in-Some.row c.weight.ensures (sym c.in-Some.ensures.value)

pub invariant_of-self : goal.invariant_of-self
invariant_of-self g c =
    let path = c.args.path.now in
    let es = c.self.inside.map.entries in
    let homes = c.self.inside.homes.keys in
    record {
      counted = removed_one path es c.remove.new.self.entries c.self.inside.fading c.weight.result c.self.invariant.counted c.in-Some.row c.weight.ensures (sym c.in-Some.ensures.value) c.remove.ensures.entries;
      homed = subst (AreHomed homes) (sym (ap shown_rows c.remove.ensures.entries ∙ removed path es c.len-len.ensures.ordered)) (each-without (HomedIn homes) path (shown_rows es) c.self.invariant.homed);
    }

pub returns-in-Some : goal.returns-in-Some
returns-in-Some g c =
    ap shown_rows c.remove.ensures.entries ∙ removed c.args.path.now c.self.inside.map.entries c.len-len.ensures.ordered ∙ ap (without_row c.args.path.now) c.self.view_is

pub returns-in_default : goal.returns-in_default
returns-in_default g c =
    ap shown_rows c.remove.ensures.entries ∙ removed c.args.path.now c.self.inside.map.entries c.len-len.ensures.ordered ∙ ap (without_row c.args.path.now) c.self.view_is
