use Rattle.std.proofs.Common.{None, ◌∙◌}
use Rattle.kept_docs.proofs.Texts.{other_text}
use Rattle.kept_docs.proofs.drafts.Drafts.take.Goals as goal

pub returns-in-Some-Some-clause-others : goal.returns-in-Some-Some-clause-others
returns-in-Some-Some-clause-others c = λ text apart.
    other_text c.path.result.now c.args.self.now.map c.remove.new.self None c.remove.ensures.updates text (λ is. apart (is ∙ c.path.ensures.text))

pub returns-in-Some-None-clause-others : goal.returns-in-Some-None-clause-others
returns-in-Some-None-clause-others c = λ text apart.
    other_text c.path.result.now c.args.self.now.map c.remove.new.self None c.remove.ensures.updates text (λ is. apart (is ∙ c.path.ensures.text))
