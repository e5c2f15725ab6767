use Rattle.std.proofs.Common.{ap, ◌∙◌, arith}
use Rattle.turn_lock.specs.History.{IsStep}
use Rattle.turn_lock.proofs.Steps.{takes_turn}
use Rattle.turn_lock.proofs.hold.take.Goals as goal

pub compare_exchange-found-requires : goal.compare_exchange-found-requires
compare_exchange-found-requires g c =
    let i = c.loop.invariant in
    let r = c.requires in
    let m = c.loop.token.me in (
      i.2 ∙ r.place,
      (let n = c.args.turns.now.sized.0 in omega arith),
      takes_turn (IsStep g.T.Thing.fixed g.T.Thing.may_ask g.T.Thing.turned) c.args.turns.now.table.shared.key.value c.args.turns.now.table.shared.table_id.slots c.loop.token.id m c.look-word.result
          (ap (λ x. x.1) i.3 ∙ r.alone)
          (let e = ap (λ x. x.0.parts) i.3 in let a = r.alive in omega arith)
          (ap (λ x. x.0.named) i.3 ∙ r.named)
          c.if-word-eq0.true,
    )
