use Rattle.std.proofs.Common.{add-zero, ap, arith, nat_cmp, refl, subst, sym, ◌+◌, ◌∙◌, ◌≡◌}
use Rattle.std.specs.BTreeMap.{is_at}
use Rattle.blob_yard.specs.declared.places.Place.{Place}
use Rattle.blob_yard.specs.Places.{AreRising, changed, leases_at}
use Rattle.std.specs.Option.{option_map_or}
use Rattle.blob_yard.proofs.CountLemmas.{at_least, lent, rewritten}
use Rattle.blob_yard.proofs.MapLemmas.{written, unwritten, lookup-number, rising-from}
use Rattle.blob_yard.proofs.places.lend.Goals as goal

pub returns-in-Some-clause-changed : goal.returns-in-Some-clause-changed
returns-in-Some-clause-changed c =
    let change : Place → Place = (λ p. record p { leases = p.leases + 1 }) in
    (c.get_mut.follows.holds _).0
    ∙ written c.args.number change c.places.inside.map.entries c.in-Some.place.now _ c.get_mut.ensures.ordered (sym c.in-Some.ensures.value) refl
    ∙ ap (changed c.args.number change) c.places.view_is

pub returns-in_default-clause-changed : goal.returns-in_default-clause-changed
returns-in_default-clause-changed c =
    let change : Place → Place = (λ p. record p { leases = p.leases + 1 }) in
    ap (λ m. m.entries) c.get_mut.follows.holds-at-none
    ∙ unwritten c.args.number change c.places.inside.map.entries (sym c.in_default.ensures.value)
    ∙ ap (changed c.args.number change) c.places.view_is

pub overflow_add-place : goal.overflow_add-place
overflow_add-place c =
    let found : leases_at c.args.number c.places.inside.map.entries ≡ c.in-Some.place.now.leases =
    ap (λ o. option_map_or (λ (p : Place). p.leases) o 0) (sym (lookup-number c.args.number c.places.inside.map.entries) ∙ sym c.in-Some.ensures.value) in
    omega (arith, found, ap (leases_at c.args.number) c.places.view_is, c.requires)

pub returns-in-Some-clause-rising : goal.returns-in-Some-clause-rising
returns-in-Some-clause-rising c = subst AreRising c.places.view_is (rising-from c.places.inside.map.entries c.get_mut.ensures.ordered)

pub returns-in_default-clause-rising : goal.returns-in_default-clause-rising
returns-in_default-clause-rising c = subst AreRising c.places.view_is (rising-from c.places.inside.map.entries c.get_mut.ensures.ordered)

pub overflow_sub-places : goal.overflow_sub-places
overflow_sub-places c =
    at_least (is_at (nat_cmp c.args.number)) c.places.inside.map.entries c.places.inside.map.entries c.places.inside.garbage c.weight.result c.in-Some.place.now c.places.invariant c.weight.ensures (sym c.in-Some.ensures.value)

pub invariant_of-places : goal.invariant_of-places
invariant_of-places c =
    sym (add-zero _)
    ∙ rewritten (is_at (nat_cmp c.args.number)) c.places.inside.map.entries _ c.places.inside.garbage c.weight.result c.in-Some.place.now c.places.invariant c.weight.ensures (sym c.in-Some.ensures.value)
    0 (record c.in-Some.place.now { leases = c.in-Some.place.now.leases + 1 }) (sym (lent c.in-Some.place.now)) (c.get_mut.follows.holds _).0
