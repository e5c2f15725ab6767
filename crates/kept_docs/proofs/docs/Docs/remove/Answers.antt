use Rattle.kept_docs.proofs.PageLemmas.{removed-place}
use Rattle.kept_docs.proofs.docs.Docs.remove.Goals as goal

pub returns : goal.returns
returns c = removed-place c.args.path.now c.args.self.now.map c.remove.new.self c.remove.ensures.updates
