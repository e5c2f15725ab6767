use Rattle.std.specs.Prelude.{ℕ, List, Option}
use Rattle.std.specs.List.{flat_map}
use Rattle.mvn_doc.specs.Sheet.{Adds}
use Rattle.mvn_metadata.specs.Written.{entry_lines}
use Rattle.mvn_doc.proofs.writing.each_entry.Given as goal

abbrev pub invariant-loop-pair : goal.invariant-loop-pair
invariant-loop-pair l =
    (end : Option (List ℕ)) → Adds l.out end (flat_map entry_lines l.pair-iterator) → Adds l.fn.out end (flat_map entry_lines l.entries)
