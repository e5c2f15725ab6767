use Rattle.std.proofs.Common.{◌≡◌, take}
use Rattle.repo_config.proofs.copies.copy_proxies.Given as goal

-- those so far
abbrev pub invariant-loop-rule : goal.invariant-loop-rule
invariant-loop-rule l = l.copy.items ≡ take l.rule-index l.rules
