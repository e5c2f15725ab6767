use Rattle.std.proofs.Common.{◌≡◌, [], drop, map, take}
use Rattle.settings_keys.specs.Ids.{first_twice}
use Rattle.repo_config.proofs.names.first_twice.Given as goal

abbrev pub invariant-loop-index : goal.invariant-loop-index
invariant-loop-index l =
    first_twice [] (map (λ id. id.now) l.ids)
    ≡ first_twice (map (λ id. id.now) (take l.index l.ids)) (map (λ id. id.now) (drop l.index l.ids))
