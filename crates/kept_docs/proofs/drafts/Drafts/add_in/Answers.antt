use Rattle.std.proofs.Common.{sym, ◌∙◌}
use Rattle.std.proofs.lemmas.Result.{on_ok_weaker}
use Rattle.mvn_coords.specs.Layout.{text_of_directory}
use Rattle.std.specs.Prelude.{Some}
use Rattle.kept_docs.specs.Drafted.{IsDraftedAt, drafted}
use Rattle.kept_docs.proofs.DraftLemmas.{draft_more, file_elsewhere}
use Rattle.kept_docs.proofs.drafts.Drafts.add_in.Goals as goal

pub returns-then-not-is_in : goal.returns-then-not-is_in
returns-then-not-is_in c =
    file_elsewhere c.args.dir.now c.args.c.now c.args.accepted (λ text. drafted text c.args.docs.now c.args.self.now) c.path-path.ensures.rule (sym c.is_in.ensures ∙ c.if-not-is_in.true)

pub returns : goal.returns
returns c =
    on_ok_weaker c.put.result
    (λ (put : IsDraftedAt (text_of_directory c.args.dir.now) (Some c.in_ok-more.more) c.take.new.self c.put.new.self).
    draft_more c.args.dir.now c.args.c.now c.args.accepted c.args.docs.now c.args.self.now c.take.new.self c.put.new.self c.in_ok-doc.doc c.in_ok-more.more c.path-path.ensures.rule (sym c.is_in.ensures ∙ c.if-not-is_in.false)
    c.in_ok-doc.ensures.taken c.take.ensures.others c.in_ok-more.ensures put)
    c.put.ensures
