use Rattle.std.proofs.Common.{nat_cmp, nat_eq, sym, ap, ◌∙◌}
use Rattle.std.specs.BTreeMap.{is_at}
use Rattle.std.specs.Map.{remove_entry}
use Rattle.blob_yard.proofs.CountLemmas.{at_least, removed_one}
use Rattle.blob_yard.proofs.MapLemmas.{remove_entry-number}
use Rattle.blob_yard.proofs.places.remove.Goals as goal

pub overflow_sub-places : goal.overflow_sub-places
overflow_sub-places c =
    at_least (is_at (nat_cmp c.args.number)) c.places.inside.map.entries c.places.inside.map.entries c.places.inside.garbage c.weight.result c.in-Some.place c.places.invariant c.weight.ensures (sym c.in-Some.ensures.value)

pub invariant_of-places : goal.invariant_of-places
invariant_of-places c =
    removed_one (is_at (nat_cmp c.args.number)) c.places.inside.map.entries c.remove.new.self.entries c.places.inside.garbage c.weight.result c.in-Some.place c.places.invariant c.weight.ensures (sym c.in-Some.ensures.value)
    c.remove.ensures.entries

pub returns-in-Some : goal.returns-in-Some
returns-in-Some c =
    c.remove.ensures.entries ∙ remove_entry-number c.args.number c.places.inside.map.entries ∙ ap (remove_entry (nat_eq c.args.number)) c.places.view_is

pub returns-in_default : goal.returns-in_default
returns-in_default c =
    c.remove.ensures.entries ∙ remove_entry-number c.args.number c.places.inside.map.entries ∙ ap (remove_entry (nat_eq c.args.number)) c.places.view_is
