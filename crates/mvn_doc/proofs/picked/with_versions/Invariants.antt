use Rattle.std.proofs.Common.{◌≡◌, drop, fold}
use Rattle.mvn_metadata.specs.Document.{with_version}
use Rattle.mvn_doc.specs.Picked.{versions_in}
use Rattle.mvn_doc.proofs.picked.with_versions.Given as goal

abbrev pub invariant-loop-element : goal.invariant-loop-element
invariant-loop-element l =
    record l.whole { listing = fold with_version l.whole.listing (versions_in (drop l.element-index l.placed)) }
    ≡ record l.fn.doc { listing = fold with_version l.fn.doc.listing (versions_in l.placed) }
