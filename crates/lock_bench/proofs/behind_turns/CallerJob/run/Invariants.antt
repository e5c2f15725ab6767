use Rattle.turn_lock.specs.History.{IsStep}
use Rattle.turn_lock.specs.Seats.{IsSeatOf}
use Rattle.lock_bench.proofs.behind_turns.CallerJob.run.Given as goal

abbrev pub invariant-loop : goal.invariant-loop
invariant-loop g l = IsSeatOf (IsStep g.T.Thing.fixed g.T.Thing.may_ask g.T.Thing.turned) l.turns l.seat
