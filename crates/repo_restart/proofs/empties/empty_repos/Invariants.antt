use Rattle.std.proofs.Common.{◌≡◌, map, take}
use Rattle.repo_model.specs.State.{new_hosted}
use Rattle.repo_restart.proofs.empties.empty_repos.Given as goal

-- the repositories so far
abbrev pub invariant-loop-rule : goal.invariant-loop-rule
invariant-loop-rule g l = l.repos.items ≡ map new_hosted (take l.rule-index l.rules)
