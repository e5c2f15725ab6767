use Rattle.std.proofs.Common.{◌≡◌, ◌∙◌, ap, filter, sym, take}
use Rattle.std.proofs.lemmas.List.{take_all}
use Rattle.path_patterns.specs.Pattern.{is_pattern}
use Rattle.path_patterns.proofs.Bad.{filter-all}
use Rattle.path_patterns.proofs.patterns.Patterns.copied.Goals as goal

pub returns : goal.returns
returns c =
    let items = c.texts-text-items.result.now in
    let same : items ≡ c.args.self.now = c.texts-text-items.ensures.texts in
    c.loop-text.invariant ∙ ap (λ texts. filter is_pattern (take c.loop-text.text-index texts)) (sym same)
    ∙ ap (filter is_pattern) (take_all c.loop-text.text-index items c.loop-text-test.false ∙ same)
    ∙ filter-all is_pattern c.args.self.now c.texts-text-items.ensures.form
