use Rattle.std.proofs.Common.{◌∙◌}
use Rattle.directory_rows.proofs.PathForms.{file_form}
use Rattle.kept_docs.specs.Kept.{kept_at}
use Rattle.kept_docs.proofs.DraftLemmas.{file_twice}
use Rattle.kept_docs.proofs.changing.change_both.Goals as goal

pub returns-in-Ok-clause-more : goal.returns-in-Ok-clause-more
returns-in-Ok-clause-more c =
    file_twice c.args.c.now c.args.accepted (λ text. kept_at text c.args.docs.now) (λ text. kept_at text c.change_at.new.docs) (λ text. kept_at text c.change_at-2.new.docs) c.as_str.result.now c.as_str-2.result.now
    (file_form c.args.c.now c.path-path.ensures.rule).group (c.as_str.ensures.value ∙ c.in_ok-artifact.ensures) (c.as_str-2.ensures.value ∙ c.in_ok-version.ensures)
    c.in_ok-first.ensures.more c.in-Ok.ensures.more
