use Rattle.std.proofs.Common.{◌≡◌, take}
use Rattle.repo_model.specs.Effect.{recorded}
use Rattle.hosted_repo.specs.Fades.{fade_at_paths}
use Rattle.hosted_repo.proofs.changes.fade_change.Given as goal

-- the items of the paths so far
abbrev pub invariant-loop-path : goal.invariant-loop-path
invariant-loop-path l = l.items.items ≡ recorded (fade_at_paths l.repo l.moment (take l.path-index l.paths))
