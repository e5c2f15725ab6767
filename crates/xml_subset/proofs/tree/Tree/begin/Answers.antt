use Rattle.std.proofs.Common.{rules, subst, sym, List, ℕ}
use Rattle.xml_subset.specs.declared.tree.Opened.{Opened}
use Rattle.xml_subset.specs.Token.{Open}
use Rattle.xml_subset.specs.Tree.{Takes}
use Rattle.xml_subset.proofs.TreeSteps.{takes_open}
use Rattle.xml_subset.proofs.tree.Tree.begin.Goals as goal

pub returns : goal.returns
returns c =
    let new = record c.args.self.now { elements = c.push.new.self; «open» = c.push-2.new.self } in
    let opened : Opened = record { index = c.len.result; name = c.args.name; text = c.new.result } in
    subst (λ (name : List ℕ). Takes c.args.self.now new (Open name)) c.element-element.ensures.name
    (takes_open c.args.self.now new opened c.element-element.result c.requires c.in_ok-push-2.ensures.items c.in_ok-push.ensures.items
    (search rules) c.new.ensures.items (sym c.element-element.ensures.name) c.element-element.ensures.depth)
