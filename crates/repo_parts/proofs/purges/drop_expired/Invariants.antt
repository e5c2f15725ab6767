use Rattle.std.proofs.Common.{◌≡◌, take}
use Rattle.repo_parts.specs.Purge.{dropped_by}
use Rattle.repo_parts.proofs.purges.drop_expired.Given as goal

-- the repositories so far
abbrev pub invariant-loop-place : goal.invariant-loop-place
invariant-loop-place g l = l.repos.items ≡ dropped_by l.grace l.now (take l.place l.counts) l.fn.repos.items
