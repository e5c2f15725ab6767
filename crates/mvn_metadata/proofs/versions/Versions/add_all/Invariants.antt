use Rattle.std.proofs.Common.{◌≡◌}
use Rattle.mvn_metadata.specs.Merge.{with_versions}
use Rattle.mvn_metadata.proofs.versions.Versions.add_all.Given as goal

abbrev pub invariant-loop-version : goal.invariant-loop-version
invariant-loop-version l = with_versions l.self l.version-iterator ≡ with_versions l.fn.self l.fn.versions
