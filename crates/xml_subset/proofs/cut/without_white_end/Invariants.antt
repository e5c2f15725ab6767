use Rattle.std.proofs.Common.{◌≡◌, length, reverse}
use Rattle.xml_subset.specs.Cut.{without_white}
use Rattle.xml_subset.proofs.cut.without_white_end.Given as goal

abbrev pub invariant-loop-text : goal.invariant-loop-text
invariant-loop-text l = without_white (reverse l.text) ≡ without_white (reverse l.fn.text)

abbrev pub decreases-loop-text : goal.decreases-loop-text
decreases-loop-text l = length l.text
