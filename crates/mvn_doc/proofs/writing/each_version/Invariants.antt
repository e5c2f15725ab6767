use Rattle.std.specs.Prelude.{ℕ, List, Option}
use Rattle.std.specs.List.{flat_map}
use Rattle.mvn_doc.specs.Sheet.{Adds}
use Rattle.mvn_metadata.specs.Written.{version_line}
use Rattle.mvn_doc.proofs.writing.each_version.Given as goal

abbrev pub invariant-loop-version : goal.invariant-loop-version
invariant-loop-version l =
    (end : Option (List ℕ)) → Adds l.out end (flat_map version_line l.version-iterator) → Adds l.fn.out end (flat_map version_line l.versions)
