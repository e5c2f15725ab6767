use Rattle.std.proofs.Common.{◌≡◌, ◌++◌}
use Rattle.std.specs.Vec.Iter.{into_iter_items}
use Rattle.repo_restart.proofs.restoring.built.Given as goal

-- the repositories so far, and the builders that are left
abbrev pub invariant-loop-builder : goal.invariant-loop-builder
invariant-loop-builder g l = l.repos.items ++ into_iter_items l.builder-iterator ≡ l.fn.builders.items
