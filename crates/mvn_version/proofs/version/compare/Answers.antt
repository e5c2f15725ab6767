-- The elements compare as the keys of the two texts.
use Rattle.std.proofs.Common.{◌∙◌}
use Rattle.std.specs.Cmp.Lexicographic.{slice_cmp}
use Rattle.std.specs.Ordering.{nat_cmp}
use Rattle.mvn_version.proofs.Compared.{compared}
use Rattle.mvn_version.proofs.version.compare.Goals as goal

pub returns : goal.returns
returns c =
    c.cmp.ensures
    ∙ compared c.elements.result.now c.elements-2.result.now
    ∙ (λ i. slice_cmp (slice_cmp nat_cmp) (c.elements.ensures i) (c.elements-2.ensures i))
