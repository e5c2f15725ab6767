use Rattle.turn_lock.proofs.Histories.{calls_asked}
use Rattle.turn_lock.proofs.history.each_call_may_be_asked.Goals as goal

pub returns : goal.returns
returns g c = λ x log legal. calls_asked g.T.Thing.fixed g.T.Thing.may_ask g.T.Thing.turned g.met.T.Thing.stays_fixed x log legal
