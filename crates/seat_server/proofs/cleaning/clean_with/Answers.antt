use Rattle.turn_lock.specs.History.{IsStep}
use Rattle.seat_server.proofs.Gains.{leads_gained}
use Rattle.seat_server.proofs.cleaning.clean_with.Goals as goal

pub returns : goal.returns
returns g c =
    let s = c.clean_pass-cleaned.ensures.passes in
    let gained = leads_gained g.T.Repository.sight (IsStep g.T.Thing.fixed g.T.Thing.may_ask g.T.Thing.turned) _ (λ asker. asker.turns.now) (λ asker. asker.seat) (λ old entry new turn. turn) s.0 _ _ c.requires.seat s.1 in
    record { passes = (s.0, gained, s.3) }
