use Rattle.std.proofs.Common.{◌≡◌, fold, take}
use Rattle.mvn_metadata.specs.Document.{merged}
use Rattle.mvn_metadata.proofs.merging.merge.Given as goal

abbrev pub invariant-loop-doc : goal.invariant-loop-doc
invariant-loop-doc l = l.whole ≡ fold merged l.initial.whole (take l.doc-index l.docs)
