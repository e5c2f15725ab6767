use Rattle.std.proofs.Common.{◌≡◌, ◌++◌, map, take}
use Rattle.repo_config.proofs.names.push_group_ids.Given as goal

abbrev pub invariant-loop-rule : goal.invariant-loop-rule
invariant-loop-rule l =
    map (λ id. id.now) l.ids.items
    ≡ map (λ id. id.now) l.fn.ids.items ++ map (λ rule. rule.id) (take l.rule-index l.rules)
