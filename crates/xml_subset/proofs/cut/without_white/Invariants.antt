use Rattle.std.proofs.Common.{◌≡◌, length}
use Rattle.xml_subset.specs.Cut.{without_white}
use Rattle.xml_subset.proofs.cut.without_white.Given as goal

abbrev pub invariant-loop-text : goal.invariant-loop-text
invariant-loop-text l = without_white l.text ≡ without_white l.fn.text

abbrev pub decreases-loop-text : goal.decreases-loop-text
decreases-loop-text l = length l.text
