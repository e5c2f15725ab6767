use Rattle.std.proofs.Common.{◌≡◌, map, take}
use Rattle.repo_model.specs.State.{new_proxy}
use Rattle.repo_restart.proofs.proxies.empty_proxies.Given as goal

-- the proxies so far
abbrev pub invariant-loop-rule : goal.invariant-loop-rule
invariant-loop-rule g l = l.proxies.items ≡ map new_proxy (take l.rule-index l.rules)
