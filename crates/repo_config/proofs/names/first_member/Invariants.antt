use Rattle.std.proofs.Common.{◌≡◌, drop, map}
use Rattle.std.specs.List.{find, flat_map}
use Rattle.repo_config.specs.Names.{is_as}
use Rattle.repo_config.proofs.names.first_member.Given as goal

abbrev pub invariant-loop-group : goal.invariant-loop-group
invariant-loop-group l =
    let test = is_as l.among (map (λ id. id.now) l.ids) in
    find test (flat_map (λ group. group.members) l.groups)
    ≡ find test (flat_map (λ group. group.members) (drop l.group-index l.groups))
