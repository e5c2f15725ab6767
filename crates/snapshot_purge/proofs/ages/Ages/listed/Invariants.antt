use Rattle.std.proofs.Common.{◌≡◌, map}
use Rattle.std.specs.Map.Iter.{deref_pair}
use Rattle.snapshot_purge.specs.Ages.{shown_ages}
use Rattle.snapshot_purge.specs.Shown.{shown_builds}
use Rattle.snapshot_purge.proofs.ages.Ages.listed.Given as goal

-- the builds so far
abbrev pub invariant-loop-build : goal.invariant-loop-build
invariant-loop-build l = shown_builds l.builds.items ≡ shown_ages (map deref_pair l.yielded)
