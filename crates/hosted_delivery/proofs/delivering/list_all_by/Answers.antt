use Rattle.std.proofs.Common.{◌++◌, ◌∷◌, [], take, ap, ◌∙◌, sym}
use Rattle.std.proofs.lemmas.List.{take_more}
use Rattle.hosted_delivery.specs.Deliveries.{with_listed, with_listed_by}
use Rattle.hosted_delivery.proofs.DeliveryLemmas.{with_listed-append}
use Rattle.hosted_delivery.proofs.delivering.list_all_by.Goals as goal

pub loop-item-preserved : goal.loop-item-preserved
loop-item-preserved g c =
    let items = c.args.items.now in
    let i = c.loop-item.item-index in
    let old = c.args.rows.now in
    c.list_by.ensures
    ∙ ap (with_listed_by c.args.now c.item-item.result) c.loop-item.invariant
    ∙ sym (with_listed-append c.args.now (take i items) (c.item-item.result ∷ []) old)
    ∙ ap (λ item. with_listed c.args.now (take i items ++ item ∷ []) old) c.item-item.is
    ∙ ap (λ some. with_listed c.args.now some old) (sym (take_more items i c.item-item.result c.loop-item-test.true))
