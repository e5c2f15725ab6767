use Rattle.std.proofs.Common.{◌≡◌, length}
use Rattle.mvn_metadata.specs.Document.{release}
use Rattle.mvn_metadata.proofs.versions.Versions.release.Given as goal

abbrev pub invariant-back : goal.invariant-back
invariant-back l = release l.versions ≡ release l.self

abbrev pub decreases-back : goal.decreases-back
decreases-back l = length l.versions
