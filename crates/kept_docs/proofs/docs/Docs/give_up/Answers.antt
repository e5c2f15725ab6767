use Rattle.std.proofs.Common.{◌∙◌}
use Rattle.kept_docs.proofs.docs.Docs.give_up.Goals as goal

pub loop-page-preserved : goal.loop-page-preserved
loop-page-preserved c = λ text. c.drop_place.ensures text ∙ c.loop-page.invariant text
