use Rattle.std.proofs.Common.{◌+◌, ◌++◌, drop, map, sym, ap, ◌∙◌, arith}
use Rattle.xml_subset.specs.Element.{shown}
use Rattle.mvn_doc.specs.Place.{placed}
use Rattle.mvn_doc.proofs.PickedSteps.{cut_off}
use Rattle.mvn_doc.proofs.place.with_places.Goals as goal

pub loop-element-preserved : goal.loop-element-preserved
loop-element-preserved c =
    let i = c.loop-element.element-index in
    let cut = cut_off c.args.elements.now i c.element-item.result (omega arith) c.element-item.is in
    c.in_ok-add_placed.ensures (map shown (drop (i + 1) c.args.elements.now))
    ∙ ap (λ es. c.loop-element.placed.items ++ placed c.loop-element.opened.items (map shown es)) (sym cut) ∙ c.loop-element.invariant
