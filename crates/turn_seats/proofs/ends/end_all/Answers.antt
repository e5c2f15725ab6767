use Rattle.std.proofs.Common.{map}
use Rattle.turn_lock.specs.History.{IsStep}
use Rattle.turn_seats.proofs.Joined.{ended}
use Rattle.turn_seats.proofs.ends.end_all.Goals as goal

pub returns-clause-ended : goal.returns-clause-ended
returns-clause-ended g c =
    ended (IsStep g.T.Thing.fixed g.T.Thing.may_ask g.T.Thing.turned) c.args.turns c.args.seat c.join_all-back.new.seat (map (λ other. other.0) c.args.others.items) c.close-thing.result.0 c.close-thing.result.1
    c.join_all-back.ensures.joined c.close-thing.ensures
