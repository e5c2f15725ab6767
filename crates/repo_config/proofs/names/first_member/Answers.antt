use Rattle.std.proofs.Common.{map, refl, ◌∙◌}
use Rattle.repo_config.specs.Names.{is_as}
use Rattle.repo_config.proofs.Ids.{find-groups}
use Rattle.repo_config.proofs.names.first_member.Goals as goal

pub returns-in-Some : goal.returns-in-Some
returns-in-Some c =
    let next = find-groups (is_as c.args.among (map (λ id. id.now) c.args.ids.now)) c.args.groups.now c.loop-group.group-index
    c.group-item.result c.loop-group-test.true c.group-item.is in
    rw (c.loop-group.invariant, next, ← c.members.ensures, ← c.in-Some.ensures)

pub loop-group-preserved : goal.loop-group-preserved
loop-group-preserved c =
    let next = find-groups (is_as c.args.among (map (λ id. id.now) c.args.ids.now)) c.args.groups.now c.loop-group.group-index
    c.group-item.result c.loop-group-test.true c.group-item.is in
    c.loop-group.invariant ∙ next ∙ rw (← c.members.ensures, ← c.in_default.ensures) refl
