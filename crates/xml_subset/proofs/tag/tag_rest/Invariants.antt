use Rattle.std.proofs.Common.{◌≡◌, length}
use Rattle.xml_subset.specs.Tag.{tag_rest}
use Rattle.xml_subset.proofs.tag.tag_rest.Given as goal

abbrev pub invariant-attributes : goal.invariant-attributes
invariant-attributes l = tag_rest (length l.text) l.text ≡ tag_rest (length l.fn.text) l.fn.text

abbrev pub decreases-attributes : goal.decreases-attributes
decreases-attributes l = length l.text
