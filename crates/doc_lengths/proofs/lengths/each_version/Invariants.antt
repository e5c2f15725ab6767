use Rattle.std.proofs.Common.{◌≡◌, ◌≤◌, ◌+◌, length}
use Rattle.std.specs.List.{flat_map}
use Rattle.mvn_metadata.specs.Written.{version_line}
use Rattle.doc_lengths.specs.Counts.{counted}
use Rattle.doc_lengths.proofs.lengths.each_version.Given as goal

abbrev pub invariant-loop-version : goal.invariant-loop-version
invariant-loop-version l =
    (l.size ≤ 18446744073709551615) × (counted (l.size + length (flat_map version_line l.version-iterator)) ≡ counted (length (flat_map version_line l.versions)))
