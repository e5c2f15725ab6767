use Rattle.std.proofs.Common.{◌≡◌, Ok, sym, ap, ◌∙◌}
use Rattle.mvn_coords.specs.Kind.{kind}
use Rattle.mvn_coords.specs.declared.kind.Kind.TheVariants.{Doc}
use Rattle.proxy_rules.proofs.Forms.{document-change}
use Rattle.proxy_rules.proofs.proxy.Proxy.land_document.Goals as goal

pub keep_document-requires-clause-change : goal.keep_document-requires-clause-change
keep_document-requires-clause-change g c =
    let path = c.as_str-path.result.now in
    let kept = c.in-Ok.kept in
    let named : kind path ≡ Ok (Doc c.in-Ok-Doc.dir) = sym c.kind_of.ensures.kind ∙ c.in-Ok-Doc.is ∙ ap Ok c.in-Ok-Doc.field-0-is in
    document-change c.self.inside.rule.id path kept.checked kept.doc c.in-Ok-Doc.dir c.self.invariant.named named kept.in_time c.in-Ok.ensures.form
