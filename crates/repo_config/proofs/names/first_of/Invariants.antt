use Rattle.std.proofs.Common.{◌≡◌, drop, map}
use Rattle.std.specs.List.{find}
use Rattle.repo_config.specs.Names.{is_as}
use Rattle.repo_config.proofs.names.first_of.Given as goal

abbrev pub invariant-loop-member : goal.invariant-loop-member
invariant-loop-member l =
    let test = is_as l.among (map (λ id. id.now) l.ids) in
    find test l.members ≡ find test (drop l.member-index l.members)
