use Rattle.std.proofs.Common.{◌∷◌, ◌++◌, sym, ◌∙◌, append_assoc}
use Rattle.kept_docs.proofs.Homes.{below}
use Rattle.kept_docs.proofs.drafts.artifact_document.Goals as goal

pub returns : goal.returns
returns c =
    c.in_ok-path.ensures ∙ (λ i. c.group.ensures i ++ (47 ∷ (c.artifact.ensures i ++ below)))
    ∙ sym (append_assoc c.args.c.now.group (47 ∷ c.args.c.now.artifact) below)
