use Rattle.std.proofs.Common.{◌∙◌, sym, ap, true, false, Ok}
use Rattle.repo_rows.proofs.Kept.{kept_is}
use Rattle.repo_rows.proofs.fields.kept_document.Goals as goal

pub returns-then-eq : goal.returns-then-eq
returns-then-eq c =
    let named = sym c.kind_of.ensures.kind ∙ c.in-Ok-Doc.is ∙ ap Ok c.in-Ok-Doc.field-0-is in
    sym (kept_is c.args.path.now c.args.written.now c.in-Ok-Doc.dir c.in-Ok.doc c.in_ok-settled.settled c.as_slice.result.now true named c.in-Ok.ensures.document c.in_ok-settled.ensures (c.as_slice.ensures.value ∙ c.in_ok-text.ensures) (sym c.eq.ensures ∙ c.if-eq.true))

pub returns-else-eq : goal.returns-else-eq
returns-else-eq c =
    let named = sym c.kind_of.ensures.kind ∙ c.in-Ok-Doc.is ∙ ap Ok c.in-Ok-Doc.field-0-is in
    sym (kept_is c.args.path.now c.args.written.now c.in-Ok-Doc.dir c.in-Ok.doc c.in_ok-settled.settled c.as_slice.result.now false named c.in-Ok.ensures.document c.in_ok-settled.ensures (c.as_slice.ensures.value ∙ c.in_ok-text.ensures) (sym c.eq.ensures ∙ c.if-eq.false))
