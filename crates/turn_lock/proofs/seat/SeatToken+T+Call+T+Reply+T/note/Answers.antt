use Rattle.std.proofs.Common.{arith}
use Rattle.turn_lock.specs.History.{IsStep}
use Rattle.turn_lock.proofs.Steps.{notes}
use Rattle.turn_lock.proofs.seat.SeatToken+T+Call+T+Reply+T.note.Goals as goal

pub split_seat-slip-requires : goal.split_seat-slip-requires
split_seat-slip-requires g c =
    let s = c.requires.seat in (
      s.place,
      (let n = c.args.turns.now.sized.0 in omega arith),
      notes (IsStep g.T.Thing.fixed g.T.Thing.may_ask g.T.Thing.turned) c.args.turns.now.table.shared.key.value c.args.self.now.token.id c.args.self.now.token.me.0 s.named c.requires.parts,
    )
