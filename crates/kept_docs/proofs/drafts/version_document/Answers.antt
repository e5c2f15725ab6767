use Rattle.std.proofs.Common.{◌∷◌, ◌++◌, sym, ap, ◌∙◌, append_assoc}
use Rattle.kept_docs.proofs.Homes.{below}
use Rattle.kept_docs.proofs.drafts.version_document.Goals as goal

pub returns : goal.returns
returns c =
    let k = c.args.c.now in
    c.in_ok-push_str.ensures.bytes
    ∙ ap (λ t. t ++ below) (c.in_ok-path.ensures ∙ (λ i. c.group.ensures i ++ (47 ∷ (c.artifact.ensures i ++ (47 ∷ c.dir.ensures i))))
    ∙ sym (append_assoc k.group (47 ∷ k.artifact) (47 ∷ k.directory)))
