use Rattle.std.proofs.Common.{◌++◌, ◌∷◌, [], take, ap, ◌∙◌, sym}
use Rattle.std.proofs.lemmas.List.{take_more}
use Rattle.hosted_delivery.specs.Deliveries.{without_put, without_puts}
use Rattle.hosted_delivery.proofs.UndoneLemmas.{without_puts-append}
use Rattle.hosted_delivery.proofs.delivering.undo_all.Goals as goal

pub loop-item-preserved : goal.loop-item-preserved
loop-item-preserved g c =
    let items = c.args.items.now in
    let i = c.loop-item.item-index in
    let old = c.args.rows.now in
    c.undo.ensures
    ∙ ap (without_put c.item-item.result) c.loop-item.invariant
    ∙ sym (without_puts-append (take i items) (c.item-item.result ∷ []) old)
    ∙ ap (λ item. without_puts (take i items ++ item ∷ []) old) c.item-item.is
    ∙ ap (λ some. without_puts some old) (sym (take_more items i c.item-item.result c.loop-item-test.true))
