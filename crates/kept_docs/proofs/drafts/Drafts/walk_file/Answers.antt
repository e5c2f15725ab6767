use Rattle.std.proofs.Common.{◌∙◌}
use Rattle.std.proofs.lemmas.Result.{on_ok_weaker}
use Rattle.directory_rows.proofs.PathForms.{file_form}
use Rattle.kept_docs.specs.Drafted.{HasWalked}
use Rattle.kept_docs.proofs.DraftLemmas.{walked_twice}
use Rattle.kept_docs.proofs.drafts.Drafts.walk_file.Goals as goal

pub returns-clause-right : goal.returns-clause-right
returns-clause-right g c =
    on_ok_weaker c.walk_at-2.result (λ (two : HasWalked c.as_str-second.result.now c.args.rows.now c.walk_at.new.self c.walk_at-2.new.self). two.right) c.walk_at-2.ensures

pub returns-clause-kept : goal.returns-clause-kept
returns-clause-kept g c =
    on_ok_weaker c.walk_at-2.result
    (λ (two : HasWalked c.as_str-second.result.now c.args.rows.now c.walk_at.new.self c.walk_at-2.new.self). λ text some. two.kept text (c.in_ok-walk_at.ensures.kept text some))
    c.walk_at-2.ensures

pub returns-clause-walked : goal.returns-clause-walked
returns-clause-walked g c =
    on_ok_weaker c.walk_at-2.result
    (λ (two : HasWalked c.as_str-second.result.now c.args.rows.now c.walk_at.new.self c.walk_at-2.new.self).
    walked_twice c.args.c.now c.args.rows.now c.args.self.now c.walk_at.new.self c.walk_at-2.new.self c.as_str-first.result.now c.as_str-second.result.now
    (file_form c.args.c.now c.path-path.ensures.rule).group (c.as_str-first.ensures.value ∙ c.in_ok-artifact.ensures) (c.as_str-second.ensures.value ∙ c.in_ok-version.ensures)
    c.in_ok-walk_at.ensures two)
    c.walk_at-2.ensures
