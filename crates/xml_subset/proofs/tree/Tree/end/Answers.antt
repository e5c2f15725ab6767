use Rattle.std.proofs.Common.{refl, ap, ◌∙◌}
use Rattle.xml_subset.specs.declared.document.Element.{Element}
use Rattle.xml_subset.specs.Cut.{trimmed}
use Rattle.xml_subset.proofs.TreeSteps.{takes_close}
use Rattle.xml_subset.proofs.tree.Tree.end.Goals as goal

pub returns-in_ok-text : goal.returns-in_ok-text
returns-in_ok-text c =
    takes_close c.args.self.now _ c.pop.new.self.items c.in-Some.innermost
    (record c.index_mut.result.now { text = c.in_ok-text.text }) c.index_mut.result.now c.args.name.now c.requires
    c.in-Some.ensures.items refl refl
    (ap (λ (e : Element). e.depth) c.index_mut.ensures.value) (ap (λ (e : Element). e.name.now) c.index_mut.ensures.value)
    (c.in_ok-text.ensures.items ∙ c.trimmed.ensures ∙ ap trimmed c.deref.ensures.value)
