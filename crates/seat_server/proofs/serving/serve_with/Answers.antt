use Rattle.turn_lock.specs.History.{IsStep}
use Rattle.seat_server.proofs.Gains.{leads_gained}
use Rattle.seat_server.proofs.serving.serve_with.Goals as goal

pub returns : goal.returns
returns g c =
    let s = c.serve_stream_by-end.ensures.serves in
    let gained = leads_gained g.T.Repository.sight (IsStep g.T.Thing.fixed g.T.Thing.may_ask g.T.Thing.turned) _ (λ asker. asker.turns.now) (λ asker. asker.seat) (λ old entry new turn. turn) s.1 _ _ c.requires.seat s.2 in
    record { serves = (s.0, s.1, gained, s.4) }
