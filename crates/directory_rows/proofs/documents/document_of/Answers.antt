use Rattle.std.proofs.Common.{ℕ, List, ◌∷◌, ◌++◌, ap, ◌∙◌, subst}
use Rattle.std.proofs.lemmas.List.{append-nil}
use Rattle.ordered_rows.specs.Homes.{AreElsewhere}
use Rattle.directory_rows.proofs.DocumentLemmas.{no_document}
use Rattle.directory_rows.proofs.documents.document_of.Goals as goal

pub returns-then-not-may_have : goal.returns-then-not-may_have
returns-then-not-may_have g c =
    let rows = c.args.rows.now in
    let text =
    c.as_str.ensures.value ∙ c.in_ok-home.ensures ∙ ap (λ (t : List ℕ). c.group.result.now ++ 47 ∷ t) (append-nil c.artifact.result.now)
    ∙ (λ i. c.group.ensures i ++ 47 ∷ c.artifact.ensures i) in
    no_document c.args.dir.now rows (subst (λ (t : List ℕ). AreElsewhere t rows) text (c.may_have.ensures c.if-not-may_have.true))
