use Rattle.std.proofs.Common.{Some, ap, ◌∙◌}
use Rattle.repo_model.specs.Data as plain
use Rattle.repo_model.specs.Document.{document}
use Rattle.hosted_repo.proofs.hosted.Hosted.document.Goals as goal

pub returns-in_ok-copied-in-Some : goal.returns-in_ok-copied-in-Some
returns-in_ok-copied-in-Some g c =
    ap Some c.in_ok-copied-in-Some.ensures ∙ c.in-Some.ensures.document ∙ c.self.invariant.kept c.args.dir.now c.in-Some.ensures.rule
    ∙ ap (λ (h : plain.Hosted). document c.args.dir.now h.rows) c.self.view_is

pub returns-in-None : goal.returns-in-None
returns-in-None g c =
    c.in-None.ensures.document ∙ c.self.invariant.kept c.args.dir.now c.in-None.ensures.rule
    ∙ ap (λ (h : plain.Hosted). document c.args.dir.now h.rows) c.self.view_is
