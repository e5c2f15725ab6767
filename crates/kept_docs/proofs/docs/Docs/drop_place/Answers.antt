use Rattle.std.proofs.Common.{Some, sym, ap, ◌∙◌}
use Rattle.kept_docs.proofs.PageLemmas.{dropped-place}
use Rattle.kept_docs.proofs.docs.Docs.drop_place.Goals as goal

pub returns-in-Some-None : goal.returns-in-Some-None
returns-in-Some-None c =
    dropped-place c.args.path.now c.args.self.now.map c.remove.new.self c.remove.ensures.updates (sym c.in-Some-None.ensures.value ∙ ap Some c.in-Some-None.field-0-is)
