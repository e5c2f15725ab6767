use Rattle.std.proofs.Common.{◌≡◌, [], sym, ap, ◌∙◌, subst, arith}
use Rattle.turn_lock.specs.History.{IsStep}
use Rattle.turn_lock.specs.Rule.{Lawful}
use Rattle.turn_lock.specs.Views.{without, offshoot}
use Rattle.atomic_table.specs.Table.{Splits}
use Rattle.turn_lock.proofs.Steps.{draws, splits}
use Rattle.turn_lock.proofs.Seating.{splits_off}
use Rattle.turn_lock.proofs.seat.split_off.Goals as goal

pub load-requires : goal.load-requires
load-requires g c =
    let s = c.requires.seat in (
      s.place,
      (let n = c.args.turns.now.sized.0 in omega arith),
      draws (IsStep g.T.Thing.fixed g.T.Thing.may_ask g.T.Thing.turned) c.args.turns.now.table.shared.key.value c.args.turns.now.table.shared.table_id.slots c.args.seat.now.token.id c.args.seat.now.token.me s.alive s.named,
    )

pub split_seat-other-requires : goal.split_seat-other-requires
split_seat-other-requires g c =
    let s = c.requires.seat in
    let a = c.requires.amount in
    let d = c.load.ensures in
    let view = ap (λ m. m.0) d.2.3 in
    let v = c.load.new.seat.me.0 in (
      d.0 ∙ s.place,
      (let n = c.args.turns.now.sized.0 in omega arith),
      subst (λ n. Splits (Lawful (IsStep g.T.Thing.fixed g.T.Thing.may_ask g.T.Thing.turned) c.args.turns.now.table.shared.key.value) c.load.new.seat.id v (without n v) (offshoot n v)) a.0
          (splits (IsStep g.T.Thing.fixed g.T.Thing.may_ask g.T.Thing.turned) c.args.turns.now.table.shared.key.value c.load.new.seat.id v c.args.amount d.2.0 c.args.seat.now.token.me.0.joined
          (ap (λ w. w.named) view ∙ s.named)
          (ap (λ w. w.joined) view)
          a.1
          (let e = ap (λ w. w.parts) view in let p = a.2 in omega arith)),
    )

pub returns : goal.returns
returns g c =
    let a = c.requires.amount in
    let d = c.load.ensures in
    let e = c.split_seat-other.ensures in
    splits_off (IsStep g.T.Thing.fixed g.T.Thing.may_ask g.T.Thing.turned) c.args.turns.now c.args.seat.now.token c.load.new.seat c.split_seat-other.new.seat c.split_seat-other.result c.args.amount a.1 a.2 c.requires.seat d.0 d.2
    e.0 (subst (λ n. c.split_seat-other.new.seat.me ≡ (without n c.load.new.seat.me.0, c.load.new.seat.me.1)) (sym a.0) e.2)
    e.3 (subst (λ n. c.split_seat-other.result.me ≡ (offshoot n c.load.new.seat.me.0, [])) (sym a.0) e.4)
