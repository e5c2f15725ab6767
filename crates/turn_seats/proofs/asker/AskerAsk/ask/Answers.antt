use Rattle.std.proofs.Common.{refl, subst}
use Rattle.turn_lock.specs.History.{IsStep, Legal}
use Rattle.turn_seats.specs.Histories.{last_answer}
use Rattle.turn_seats.proofs.asker.AskerAsk.ask.Goals as goal

pub returns-clause-turn : goal.returns-clause-turn
returns-clause-turn g c =
    let did = c.call.ensures in
    let left = g.T.Repository.sight.state did.entry.1 in (
      left.last,
      left.faults,
      (
        record { call = c.args.call; reply = c.call.result; gains = did.entry; entry_is = refl; seat = did.seat; stays = did.same },
        refl,
      ),
    )

pub returns-clause-answer : goal.returns-clause-answer
returns-clause-answer g c =
    let did = c.call.ensures in
    let steps = IsStep g.T.Thing.fixed g.T.Thing.may_ask g.T.Thing.turned in
    last_answer g.T.Repository.sight steps (λ before after call reply step. g.met.T.Repository.is_turn before after call reply step.1) _ _ _
    (subst (Legal steps _) did.entry.2.0 did.seat.legal)
