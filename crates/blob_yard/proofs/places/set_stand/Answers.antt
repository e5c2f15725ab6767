use Rattle.std.proofs.Common.{ap, arith, nat_cmp, refl, subst, sym, ◌∙◌, ◌≤◌}
use Rattle.std.specs.BTreeMap.{is_at}
use Rattle.blob_yard.specs.declared.places.Place.{Place}
use Rattle.blob_yard.specs.Places.{AreRising, changed}
use Rattle.blob_yard.proofs.CountLemmas.{at_least, few, light, rewritten}
use Rattle.blob_yard.proofs.MapLemmas.{written, unwritten, rising-from}
use Rattle.blob_yard.proofs.places.set_stand.Goals as goal

pub returns-in-Some-clause-changed : goal.returns-in-Some-clause-changed
returns-in-Some-clause-changed c =
    let change : Place → Place = (λ p. record p { stand = c.args.stand }) in
    (c.get_mut.follows.holds _).0
    ∙ written c.args.number change c.places.inside.map.entries c.in-Some.place.now _ c.get_mut.ensures.ordered (sym c.in-Some.ensures.value) refl
    ∙ ap (changed c.args.number change) c.places.view_is

pub returns-in_default-clause-changed : goal.returns-in_default-clause-changed
returns-in_default-clause-changed c =
    let change : Place → Place = (λ p. record p { stand = c.args.stand }) in
    ap (λ m. m.entries) c.get_mut.follows.holds-at-none
    ∙ unwritten c.args.number change c.places.inside.map.entries (sym c.in_default.ensures.value)
    ∙ ap (changed c.args.number change) c.places.view_is

pub returns-in-Some-clause-rising : goal.returns-in-Some-clause-rising
returns-in-Some-clause-rising c = subst AreRising c.places.view_is (rising-from c.places.inside.map.entries c.get_mut.ensures.ordered)

pub returns-in_default-clause-rising : goal.returns-in_default-clause-rising
returns-in_default-clause-rising c = subst AreRising c.places.view_is (rising-from c.places.inside.map.entries c.get_mut.ensures.ordered)

pub overflow_sub-places : goal.overflow_sub-places
overflow_sub-places c =
    at_least (is_at (nat_cmp c.args.number)) c.places.inside.map.entries c.places.inside.map.entries c.places.inside.garbage c.weight.result c.in-Some.place.now c.places.invariant c.weight.ensures (sym c.in-Some.ensures.value)

pub overflow_add-places : goal.overflow_add-places
overflow_add-places c =
    let more : c.weight-in-Some.result ≤ 1 = subst (λ n. n ≤ 1) (sym c.weight-in-Some.ensures) (light (record c.in-Some.place.now { stand = c.args.stand })) in
    omega (arith, c.places.invariant, few c.places.inside.map.entries, more, c.len-len.ensures.len, c.len-len.ensures.small)

pub invariant_of-places : goal.invariant_of-places
invariant_of-places c =
    rewritten (is_at (nat_cmp c.args.number)) c.places.inside.map.entries _ c.places.inside.garbage c.weight.result c.in-Some.place.now c.places.invariant c.weight.ensures (sym c.in-Some.ensures.value)
    c.weight-in-Some.result _ c.weight-in-Some.ensures (c.get_mut.follows.holds _).0
