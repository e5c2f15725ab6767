use Rattle.std.proofs.Common.{refl, subst, List, ℕ}
use Rattle.xml_subset.specs.Token.{Empty}
use Rattle.xml_subset.specs.Tree.{Takes}
use Rattle.xml_subset.proofs.TreeSteps.{takes_empty}
use Rattle.xml_subset.proofs.tree.Tree.add_empty.Goals as goal

pub returns : goal.returns
returns c =
    let new = record c.args.self.now { elements = c.push.new.self } in
    subst (λ (name : List ℕ). Takes c.args.self.now new (Empty name)) c.element-element.ensures.name
    (takes_empty c.args.self.now new c.element-element.result c.requires refl c.in_ok-push.ensures.items c.element-element.ensures.depth c.element-element.ensures.text)
