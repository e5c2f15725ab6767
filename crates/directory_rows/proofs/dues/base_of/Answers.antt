use Rattle.std.proofs.Common.{[], ◌∷◌, ◌++◌, ap, ◌∙◌}
use Rattle.directory_rows.proofs.DueLemmas.{base_text}
use Rattle.directory_rows.proofs.PathForms.{file_form}
use Rattle.directory_rows.proofs.dues.base_of.Goals as goal

pub returns : goal.returns
returns c =
    c.in_ok-push_str.ensures.bytes
    ∙ ap (λ t. t ++ 47 ∷ []) (c.in_ok-base.ensures ∙ (λ i. c.group.ensures i ++ (47 ∷ [] ++ (c.artifact.ensures i ++ (47 ∷ [] ++ c.dir.ensures i)))))
    ∙ base_text c.args.c.now (file_form c.args.c.now c.path-path.ensures.rule).group
