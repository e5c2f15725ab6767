use Rattle.std.proofs.Common.{get_or, nat_eq, sym, ap, ◌∙◌}
use Rattle.std.proofs.lemmas.List.{take_all, take_more}
use Rattle.std.specs.Map.{remove_entry}
use Rattle.blob_yard.specs.Places.{without}
use Rattle.blob_yard.proofs.PlaceLemmas.{removed, without-none}
use Rattle.blob_yard.proofs.places.take_out.Goals as goal

pub loop-number-init : goal.loop-number-init
loop-number-init c = without-none c.args.places.now

pub loop-number-preserved : goal.loop-number-preserved
loop-number-preserved c =
    let ns = c.args.numbers.now in
    let i = c.loop-number.number-index in
    let es = c.args.places.now in
    let n = get_or ns i 0 in
    c.remove.ensures
    ∙ ap (remove_entry (nat_eq n)) c.loop-number.invariant
    ∙ removed n _ es c.requires
    ∙ ap (λ ms. without ms es) (sym (take_more ns i 0 c.loop-number-test.true))

pub returns : goal.returns
returns c = c.loop-number.invariant ∙ ap (λ ms. without ms c.args.places.now) (take_all c.loop-number.number-index c.args.numbers.now c.loop-number-test.false)
