use Rattle.std.proofs.Common.{◌≡◌, map, take}
use Rattle.repo_model.specs.Effect.{recorded}
use Rattle.hosted_repo.specs.Expired.{shown_expired}
use Rattle.hosted_repo.proofs.changes.removals.Given as goal

-- the items of the rows so far
abbrev pub invariant-loop-row : goal.invariant-loop-row
invariant-loop-row l = l.items.items ≡ recorded (map (shown_expired l.repo) (take l.row-index l.gone))
