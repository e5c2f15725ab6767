use Rattle.std.proofs.Common.{refl}
use Rattle.mvn_coords.specs.Kind.{kind}
use Rattle.repo_parts.proofs.GroupLemmas.{none-at-place, seen-at}
use Rattle.repo_parts.proofs.groups.seen_at_place.Goals as goal

pub returns-in-Some : goal.returns-in-Some
returns-in-Some g c = λ s goods.
    let asked = c.args.asked.now in
    let at = c.in-Some.ensures.lookup in
    rw (seen-at s asked.moment asked.tried.now asked.path.now (kind asked.path.now) c.args.place c.args.members.now c.in-Some.id.now at.3.0 at.1, ← c.as_str.ensures)
    (c.seen_by_member.ensures s goods)

pub returns-in-None : goal.returns-in-None
returns-in-None g c = λ s goods.
    let asked = c.args.asked.now in
    rw (none-at-place s asked.moment asked.tried.now asked.path.now (kind asked.path.now) 0 c.args.place c.args.members.now c.in-None.ensures.lookup.3) refl
