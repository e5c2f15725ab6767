use Rattle.std.proofs.Common.{◌≤◌, ◌<◌, length, arith}
use Rattle.repo_parts.specs.Shelves.{is_gone}
use Rattle.repo_parts.proofs.ShelfLemmas.{swept-all, swept-more, swept-start}
use Rattle.repo_parts.proofs.shelves.forget.Goals as goal

pub loop-place-init : goal.loop-place-init
loop-place-init c = swept-start (is_gone c.args.changed.now) c.args.shelves.now.items

pub loop-place-preserved : goal.loop-place-preserved
loop-place-preserved c =
    let olds = c.args.shelves.now.items in
    let news = c.loop-place.shelves.items in
    let i = c.loop-place.place in
    let within : i < length news = omega (arith, c.loop-place.invariant.same, c.len-place-end.ensures, c.loop-place-test.true) in
    swept-more (is_gone c.args.changed.now) olds news i c.index_mut.result.now c.forget_on.new.shelf within c.index_mut.ensures.value c.forget_on.ensures c.loop-place.invariant

pub returns : goal.returns
returns c =
    let olds = c.args.shelves.now.items in
    let far : length olds ≤ c.loop-place.place = omega (arith, c.len-place-end.ensures, c.loop-place-test.false) in
    swept-all (is_gone c.args.changed.now) olds c.loop-place.shelves.items c.loop-place.place far c.loop-place.invariant
