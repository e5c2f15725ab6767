use Rattle.std.proofs.Common.{ap, ◌∙◌}
use mathlib.Core.Option.{some}
use Rattle.std.specs.Slots.{slots_items}
use Rattle.turn_lock.specs.History.{IsStep}
use Rattle.turn_lock.proofs.Closing.{is_home, closes}
use Rattle.turn_lock.proofs.seat.close.Goals as goal

pub unreachable-requires : goal.unreachable-requires
unreachable-requires g c =
    let closed = c.close_with-closed in
    c.in_default.not-Home _ (is_home (IsStep g.T.Thing.fixed g.T.Thing.may_ask g.T.Thing.turned) c.args.turns c.args.seat (slots_items closed.result.words) (slots_items closed.result.slots) c.requires.seat c.requires.parts closed.ensures.values.2 c.take.result c.take.ensures.value)

pub returns : goal.returns
returns g c =
    let closed = c.close_with-closed in
    closes (IsStep g.T.Thing.fixed g.T.Thing.may_ask g.T.Thing.turned) c.args.turns c.args.seat (slots_items closed.result.words) (slots_items closed.result.slots) c.requires.seat c.requires.parts closed.ensures.values.2 c.word-calls.result c.in-Home.thing c.word-calls.ensures (c.take.ensures.value ∙ ap (λ s. some s) c.in-Home.is)
