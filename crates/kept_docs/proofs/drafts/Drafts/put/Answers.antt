use Rattle.std.proofs.Common.{Some, string_bytes, sym, ap, ◌∙◌}
use Rattle.kept_docs.proofs.Texts.{other_text, own_text}
use Rattle.kept_docs.specs.Drafted.{draft_at}
use Rattle.kept_docs.proofs.drafts.Drafts.put.Goals as goal

pub returns : goal.returns
returns c =
    let m = c.args.self.now.map in
    let n = c.insert.new.self in
    let key = string_bytes c.in_ok-path.path in
    let at = c.in_ok-path.ensures.ok ∙ c.path.ensures.text in
    record {
      here = ap (λ t. draft_at t (record { map = n })) (sym at) ∙ own_text key m n (Some c.args.doc) c.in_ok-insert.ensures.updates;
      others = λ text apart. other_text key m n (Some c.args.doc) c.in_ok-insert.ensures.updates text (λ is. apart (is ∙ at));
    }
