use Rattle.std.proofs.Common.{◌≡◌, drop, fold}
use Rattle.mvn_metadata.specs.Document.{with_build}
use Rattle.mvn_doc.specs.Picked.{entries_in}
use Rattle.mvn_doc.proofs.picked.with_entries.Given as goal

abbrev pub invariant-loop-i : goal.invariant-loop-i
invariant-loop-i l =
    record l.whole { listing = fold with_build l.whole.listing (entries_in (drop l.i l.placed)) }
    ≡ record l.fn.doc { listing = fold with_build l.fn.doc.listing (entries_in l.placed) }
