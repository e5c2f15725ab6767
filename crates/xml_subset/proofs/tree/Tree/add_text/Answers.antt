use Rattle.std.proofs.Common.{refl}
use Rattle.xml_subset.proofs.TreeSteps.{takes_text}
use Rattle.xml_subset.proofs.tree.Tree.add_text.Goals as goal

pub returns-in_ok-push : goal.returns-in_ok-push
returns-in_ok-push c =
    takes_text c.args.self.now _ c.pop.new.self.items c.in-Some.innermost (record c.in-Some.innermost { text = c.extend_from_slice.new.self }) c.args.bytes.now c.requires
    c.in-Some.ensures.items c.in_ok-push.ensures.items refl refl refl c.in_ok-extend_from_slice.ensures.items
