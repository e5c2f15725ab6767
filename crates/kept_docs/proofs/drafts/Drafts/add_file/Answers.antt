use Rattle.std.proofs.Common.{◌∙◌}
use Rattle.std.proofs.lemmas.Result.{on_ok_weaker}
use Rattle.directory_rows.proofs.PathForms.{file_form}
use Rattle.kept_docs.specs.Drafted.{HasDraftMore, drafted}
use Rattle.kept_docs.proofs.DraftLemmas.{file_twice}
use Rattle.kept_docs.proofs.drafts.Drafts.add_file.Goals as goal

pub returns : goal.returns
returns c =
    on_ok_weaker c.add_at-2.result
    (λ (two : HasDraftMore c.as_str-second.result.now c.args.c.now c.args.accepted c.args.docs.now c.add_at.new.self c.add_at-2.new.self).
    file_twice c.args.c.now c.args.accepted (λ text. drafted text c.args.docs.now c.args.self.now) (λ text. drafted text c.args.docs.now c.add_at.new.self) (λ text. drafted text c.args.docs.now c.add_at-2.new.self) c.as_str-first.result.now c.as_str-second.result.now
    (file_form c.args.c.now c.path-path.ensures.rule).group (c.as_str-first.ensures.value ∙ c.in_ok-artifact.ensures) (c.as_str-second.ensures.value ∙ c.in_ok-version.ensures)
    c.in_ok-add_at.ensures two)
    c.add_at-2.ensures
