use Rattle.turn_lock.specs.History.{IsStep}
use Rattle.turn_seats.specs.Histories.{is_history}
use Rattle.seat_laws.proofs.Closing.{sees-all}
use Rattle.seat_laws.proofs.laws.seats_see_closed_histories.Goals as goal

pub returns-clause-calls : goal.returns-clause-calls
returns-clause-calls g c x log fit legal =
    sees-all _ x log fit (is_history g.T.Repository.sight (IsStep g.T.Thing.fixed g.T.Thing.may_ask g.T.Thing.turned) (λ before after call reply step. g.met.T.Repository.is_turn before after call reply step.1) x log legal)

pub returns-clause-seat : goal.returns-clause-seat
returns-clause-seat g c turns seat fit is = returns-clause-calls g c _ _ fit is.legal

pub returns-clause-note : goal.returns-clause-note
returns-clause-note g c turns note fit is = returns-clause-calls g c _ _ fit is.legal

pub returns-clause-close : goal.returns-clause-close
returns-clause-close g c turns seat thing calls fit is = (returns-clause-calls g c _ _ fit is.legal, is.end)

pub returns-clause-end : goal.returns-clause-end
returns-clause-end g c turns seat others thing calls fit is = (returns-clause-calls g c _ _ fit is.legal, is.end)
