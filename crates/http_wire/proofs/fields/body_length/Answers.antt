use Rattle.std.proofs.Common.{◌≡◌, ◌∙◌, ◌+◌, List, ◌∷◌, true, false, ap, sym, drop, fold}
use Rattle.std.specs.Prelude.{codes}
use Rattle.std.proofs.lemmas.List.{at_drop_more}
use Rattle.http_wire.specs.declared.requests.BodyLength.{BodyLength}
use Rattle.http_wire.specs.declared.requests.Field.{Field}
use Rattle.http_wire.specs.Fields.{is_named, values_of}
use Rattle.http_wire.specs.FieldSteps.{joined}
use Rattle.http_wire.proofs.FieldLemmas.{said-named, said-other, said_length-fold}
use Rattle.http_wire.proofs.fields.body_length.Goals as goal
use Rattle.http_wire.proofs.fields.body_length.Goals.{then-is_named, else-is_named}

pub loop-f-init : goal.loop-f-init
loop-f-init c = sym (said_length-fold (values_of (codes "Content-Length") c.args.fields.now))

pub loop-f-preserved : goal.loop-f-preserved
loop-f-preserved c =
    let name = codes "Content-Length" in
    let fields = c.args.fields.now in
    let i = c.loop-f.f-index in
    let rest = drop (i + 1) fields in
    let item = c.f-item.result in
    let here : fold joined c.loop-f.said (values_of name (drop i fields)) ≡ fold joined c.loop-f.said (values_of name (item ∷ rest))
    = at_drop_more (λ (l : List Field). fold joined c.loop-f.said (values_of name l)) fields i item c.loop-f-test.true
    ∙ ap (λ (f : Field). fold joined c.loop-f.said (values_of name (f ∷ rest))) (sym c.f-item.is) in
    elim c.if-is_named.branch [
      | then-is_named w ↦
          let named : is_named name item ≡ true = sym c.is_named.ensures ∙ w.if-is_named.true in
          ap (λ (s : BodyLength). fold joined s (values_of name rest)) (w.said-is ∙ w.joined-said.ensures ∙ ap (joined c.loop-f.said) w.as_slice.ensures)
          ∙ sym (said-named c.loop-f.said name item rest named) ∙ sym here ∙ c.loop-f.invariant
      | else-is_named w ↦
          let other : is_named name item ≡ false = sym c.is_named.ensures ∙ w.if-is_named.false in
          ap (λ (s : BodyLength). fold joined s (values_of name rest)) w.said-is
          ∙ sym (said-other c.loop-f.said name item rest other) ∙ sym here ∙ c.loop-f.invariant
    ]
