use Rattle.std.proofs.Common.{◌≡◌}
use Rattle.mvn_metadata.specs.Merge.{with_entries}
use Rattle.mvn_metadata.proofs.entries.Entries.add_all.Given as goal

abbrev pub invariant-loop-pair : goal.invariant-loop-pair
invariant-loop-pair l = with_entries l.self l.pair-iterator ≡ with_entries l.fn.self l.fn.entries
