use Rattle.std.proofs.Common.{◌≡◌, map, take}
use Rattle.repo_model.specs.Settings.{Rule}
use Rattle.repo_routes.proofs.judging.ids_of.Given as goal

-- those so far
abbrev pub invariant-loop-rule : goal.invariant-loop-rule
invariant-loop-rule l = l.repos.items ≡ map (λ (rule : Rule). rule.id) (take l.rule-index l.rules)
