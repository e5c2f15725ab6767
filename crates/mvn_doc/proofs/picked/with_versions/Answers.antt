use Rattle.std.proofs.Common.{◌+◌, List, drop, fold, sym, ap, ◌∙◌, arith}
use Rattle.mvn_metadata.specs.Document.{with_version}
use Rattle.mvn_doc.specs.Picked.{versions_in}
use Rattle.mvn_doc.specs.Place.{Placed}
use Rattle.mvn_doc.proofs.PickedSteps.{cut_off, version_step}
use Rattle.mvn_doc.proofs.picked.with_versions.Goals as goal

pub loop-element-preserved : goal.loop-element-preserved
loop-element-preserved c =
    let before = c.loop-element.whole in
    let all : List Placed = c.args.placed.now in
    let p : Placed = c.element-item.result in
    let ps : List Placed = drop (c.loop-element.element-index + 1) all in
    let cut = cut_off all c.loop-element.element-index p (omega arith) c.element-item.is in
    version_step before c.in_ok-whole.whole p ps c.in_ok-whole.ensures
    ∙ ap (λ (qs : List Placed). record before { listing = fold with_version before.listing (versions_in qs) }) (sym cut) ∙ c.loop-element.invariant
