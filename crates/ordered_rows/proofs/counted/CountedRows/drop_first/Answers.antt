use Rattle.std.proofs.Common.{◌≡◌, arith, sym, subst}
use Rattle.ordered_rows.specs.Homes.{AreHomed}
use Rattle.ordered_rows.specs.Rows.{shown_rows, without_first}
use Rattle.ordered_rows.proofs.CountLemmas.{left, none_goes, shorter}
use Rattle.ordered_rows.proofs.HomeLemmas.{HomedIn}
use Rattle.ordered_rows.proofs.EachRow.{each-left}
use Rattle.ordered_rows.proofs.counted.CountedRows.drop_first.Goals as goal

pub returns-then-self-eq0 : goal.returns-then-self-eq0
returns-then-self-eq0 g c =
    subst (λ rows. rows ≡ without_first c.args.count c.args.limit rows) c.self.view_is
    (none_goes c.args.count c.args.limit (shown_rows c.self.inside.map.entries) (omega (arith, c.if-self-eq0.true, c.self.invariant.counted)))

pub overflow_sub-self : goal.overflow_sub-self
overflow_sub-self g c =
    omega (arith, c.len.ensures.len, c.len-before.ensures.len, shorter c.args.count c.args.limit c.self.inside.map.entries c.retain_without.new.rows.entries c.retain_without.ensures)

pub overflow_sub-self-2 : goal.overflow_sub-self-2
overflow_sub-self-2 g c =
    omega (arith, c.len.ensures.len, c.len-before.ensures.len, c.self.invariant.counted, left c.args.count c.args.limit c.self.inside.map.entries c.retain_without.new.rows.entries c.retain_without.ensures)

pub invariant_of-self : goal.invariant_of-self
invariant_of-self g c =
    let es = c.self.inside.map.entries in
    let after = c.retain_without.new.rows.entries in
    let homes = c.self.inside.homes.keys in
    record {
      counted = omega (arith, c.len.ensures.len, c.len-before.ensures.len, c.self.invariant.counted, shorter c.args.count c.args.limit es after c.retain_without.ensures, left c.args.count c.args.limit es after c.retain_without.ensures);
      homed = subst (AreHomed homes) (sym c.retain_without.ensures) (each-left (HomedIn homes) c.args.count c.args.limit (shown_rows es) c.self.invariant.homed);
    }
