use Rattle.std.proofs.Common.{◌≡◌}
use Rattle.turn_lock.specs.History.{IsStep}
use Rattle.turn_lock.specs.Seats.{parts_of, IsSeatOf}
use Rattle.lock_tests.proofs.threads.repeat.Given as goal

abbrev pub invariant-loop : goal.invariant-loop
invariant-loop g l = IsSeatOf (IsStep g.T.Thing.fixed g.T.Thing.may_ask g.T.Thing.turned) l.turns l.seat × (parts_of l.seat ≡ parts_of l.initial.seat)
