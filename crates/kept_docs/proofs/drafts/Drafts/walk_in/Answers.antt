use Rattle.std.proofs.Common.{sym, ap, ◌∙◌}
use Rattle.std.specs.Prelude.{is_some}
use Rattle.std.proofs.lemmas.Result.{on_ok_weaker}
use Rattle.mvn_coords.specs.Layout.{text_of_directory}
use Rattle.kept_docs.specs.Drafted.{IsDraftedAt, draft_at}
use Rattle.kept_docs.proofs.DraftLemmas.{walked_before, walked_now}
use Rattle.kept_docs.proofs.drafts.Drafts.walk_in.Goals as goal

pub returns-then-contains_key : goal.returns-then-contains_key
returns-then-contains_key g c =
    walked_before c.args.dir.now c.args.rows.now c.args.self.now c.path-path.ensures.rule c.requires
    (ap (λ t. is_some (draft_at t c.args.self.now)) (sym c.path.ensures.text) ∙ sym c.contains_key.ensures ∙ c.if-contains_key.true)

pub returns : goal.returns
returns g c =
    on_ok_weaker c.put.result
    (λ (put : IsDraftedAt (text_of_directory c.args.dir.now) c.in_ok-doc.doc c.args.self.now c.put.new.self).
    walked_now c.args.dir.now c.args.rows.now c.args.self.now c.put.new.self c.in_ok-doc.doc c.path-path.ensures.rule c.requires c.in_ok-doc.ensures put)
    c.put.ensures
