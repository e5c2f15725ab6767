use Rattle.std.proofs.Common.{ap, ◌∙◌, arith}
use Rattle.turn_lock.specs.History.{IsStep}
use Rattle.turn_lock.proofs.Steps.{joins, looks}
use Rattle.turn_lock.proofs.Seating.{merged}
use Rattle.turn_lock.proofs.seat.merge.Goals as goal

pub join_seat-requires : goal.join_seat-requires
join_seat-requires g c =
    let s = c.requires.seat in
    let t = c.requires.token in (
      s.place,
      t.0,
      t.1,
      (let n = c.args.turns.now.sized.0 in omega arith),
      joins (IsStep g.T.Thing.fixed g.T.Thing.may_ask g.T.Thing.turned) c.args.turns.now.table.shared.key.value c.args.seat.now.token.id c.args.seat.now.token.me.0 c.args.token.id c.args.token.me.0 s.named s.alive t.2,
    )

pub load-requires : goal.load-requires
load-requires g c =
    let s = c.requires.seat in
    let j = c.join_seat.ensures in
    let view = ap (λ m. m.0) j.2 in (
      j.0 ∙ s.place,
      (let n = c.args.turns.now.sized.0 in omega arith),
      looks (IsStep g.T.Thing.fixed g.T.Thing.may_ask g.T.Thing.turned) c.args.turns.now.table.shared.key.value c.args.turns.now.table.shared.table_id.slots c.join_seat.new.seat.id c.join_seat.new.seat.me
          (let e = ap (λ v. v.parts) view in let a = s.alive in omega arith)
          (ap (λ v. v.named) view ∙ s.named),
    )

pub returns : goal.returns
returns g c =
    let j = c.join_seat.ensures in
    let l = c.load.ensures in
    merged (IsStep g.T.Thing.fixed g.T.Thing.may_ask g.T.Thing.turned) c.args.turns.now c.args.seat.now.token c.args.token c.join_seat.new.seat c.load.new.seat c.requires.seat j.0 j.2 l.0 l.2
