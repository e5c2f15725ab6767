use Rattle.turn_lock.specs.History.{IsStep}
use Rattle.turn_seats.specs.Histories.{is_history}
use Rattle.turn_seats.proofs.laws.what_is_seen_is_a_history.Goals as goal

pub returns : goal.returns
returns g c opening log legal =
    is_history g.T.Repository.sight (IsStep g.T.Thing.fixed g.T.Thing.may_ask g.T.Thing.turned)
    (λ before after call reply step. g.met.T.Repository.is_turn before after call reply step.1) opening log legal
