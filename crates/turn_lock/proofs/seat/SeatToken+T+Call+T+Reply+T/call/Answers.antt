use Rattle.std.proofs.Common.{ap, arith}
use mathlib.Core.Option.{some}
use Rattle.turn_lock.specs.History.{IsStep}
use Rattle.turn_lock.proofs.Calls.{gives_back, still_seat, gains, same_number, same_joined, same_given, same_parts, room}
use Rattle.turn_lock.proofs.seat.SeatToken+T+Call+T+Reply+T.call.Goals as goal

pub compare_exchange_with-requires : goal.compare_exchange_with-requires
compare_exchange_with-requires g c = (
  c.turn-reply.ensures.place,
  (let n = c.args.turns.now.sized.0 in omega arith),
  gives_back (IsStep g.T.Thing.fixed g.T.Thing.may_ask g.T.Thing.turned) c.args.turns.now c.args.turns.now.table.shared.table_id.slots c.args.self.now.token c.take-word.new.token c.turn-reply.new.token c.take-word.result c.args.call c.turn-reply.result.0 c.turn-reply.result.1 c.requires.seat c.take-word.ensures c.turn-reply.ensures,
)

pub returns-clause-seat : goal.returns-clause-seat
returns-clause-seat g c =
    let t = c.turn-reply.ensures in
    let e = c.compare_exchange_with.ensures in
    still_seat (IsStep g.T.Thing.fixed g.T.Thing.may_ask g.T.Thing.turned) c.args.turns.now c.args.self.now.token c.take-word.new.token c.turn-reply.new.token c.compare_exchange_with.new.seat c.take-word.result c.args.call c.turn-reply.result.0 c.turn-reply.result.1 c.requires.seat c.take-word.ensures t e.0 (e.2 t.asked t.answered t.after (ap (λ x. some x) t.told_is) t.thing)

pub returns-clause-entry : goal.returns-clause-entry
returns-clause-entry g c =
    let t = c.turn-reply.ensures in
    let e = c.compare_exchange_with.ensures in
    gains (IsStep g.T.Thing.fixed g.T.Thing.may_ask g.T.Thing.turned) c.args.turns.now c.args.self.now.token c.take-word.new.token c.turn-reply.new.token c.compare_exchange_with.new.seat c.take-word.result c.args.call c.turn-reply.result.0 c.turn-reply.result.1 c.requires.seat c.take-word.ensures t e.0 (e.2 t.asked t.answered t.after (ap (λ x. some x) t.told_is) t.thing)

pub returns-clause-same : goal.returns-clause-same
returns-clause-same g c =
    let t = c.turn-reply.ensures in
    let e = c.compare_exchange_with.ensures in
    let gave = e.2 t.asked t.answered t.after (ap (λ x. some x) t.told_is) t.thing in (
      same_number (IsStep g.T.Thing.fixed g.T.Thing.may_ask g.T.Thing.turned) c.args.turns.now c.args.self.now.token c.take-word.new.token c.turn-reply.new.token c.compare_exchange_with.new.seat c.take-word.result c.args.call c.turn-reply.result.0 c.turn-reply.result.1 c.requires.seat c.take-word.ensures t e.0 gave,
      same_joined (IsStep g.T.Thing.fixed g.T.Thing.may_ask g.T.Thing.turned) c.args.turns.now c.args.self.now.token c.take-word.new.token c.turn-reply.new.token c.compare_exchange_with.new.seat c.take-word.result c.args.call c.turn-reply.result.0 c.turn-reply.result.1 c.requires.seat c.take-word.ensures t e.0 gave,
      same_given (IsStep g.T.Thing.fixed g.T.Thing.may_ask g.T.Thing.turned) c.args.turns.now c.args.self.now.token c.take-word.new.token c.turn-reply.new.token c.compare_exchange_with.new.seat c.take-word.result c.args.call c.turn-reply.result.0 c.turn-reply.result.1 c.requires.seat c.take-word.ensures t e.0 gave,
      same_parts (IsStep g.T.Thing.fixed g.T.Thing.may_ask g.T.Thing.turned) c.args.turns.now c.args.self.now.token c.take-word.new.token c.turn-reply.new.token c.compare_exchange_with.new.seat c.take-word.result c.args.call c.turn-reply.result.0 c.turn-reply.result.1 c.requires.seat c.take-word.ensures t e.0 gave,
    )

pub returns-clause-room : goal.returns-clause-room
returns-clause-room g c =
    let t = c.turn-reply.ensures in
    let e = c.compare_exchange_with.ensures in
    room (IsStep g.T.Thing.fixed g.T.Thing.may_ask g.T.Thing.turned) c.args.turns.now c.args.self.now.token c.take-word.new.token c.turn-reply.new.token c.compare_exchange_with.new.seat c.take-word.result c.args.call c.turn-reply.result.0 c.turn-reply.result.1 c.requires.seat c.take-word.ensures t e.0 (e.2 t.asked t.answered t.after (ap (λ x. some x) t.told_is) t.thing)
