use Rattle.std.proofs.Common.{◌≡◌, length}
use Rattle.xml_subset.specs.Cut.{after}
use Rattle.xml_subset.proofs.cut.after.Given as goal

abbrev pub invariant-loop-text : goal.invariant-loop-text
invariant-loop-text l = after l.mark l.text ≡ after l.mark l.fn.text

abbrev pub decreases-loop-text : goal.decreases-loop-text
decreases-loop-text l = length l.text
