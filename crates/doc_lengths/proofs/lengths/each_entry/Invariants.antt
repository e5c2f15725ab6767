use Rattle.std.proofs.Common.{◌≡◌, ◌≤◌, ◌+◌, length}
use Rattle.std.specs.List.{flat_map}
use Rattle.mvn_metadata.specs.Written.{entry_lines}
use Rattle.doc_lengths.specs.Counts.{counted}
use Rattle.doc_lengths.proofs.lengths.each_entry.Given as goal

abbrev pub invariant-loop-pair : goal.invariant-loop-pair
invariant-loop-pair l =
    (l.size ≤ 18446744073709551615) × (counted (l.size + length (flat_map entry_lines l.pair-iterator)) ≡ counted (length (flat_map entry_lines l.entries)))
