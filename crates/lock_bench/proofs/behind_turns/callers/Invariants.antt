use Rattle.std.proofs.Common.{◌≡◌, ◌+◌, All, length, vec_capacity}
use Rattle.turn_lock.specs.History.{IsStep}
use Rattle.turn_lock.specs.Seats.{opening, IsSeatOf}
use Rattle.lock_bench.proofs.behind_turns.callers.Given as goal

abbrev pub invariant-loop-seat : goal.invariant-loop-seat
invariant-loop-seat g l = record {
  left : All (λ seat. IsSeatOf (IsStep g.T.Thing.fixed g.T.Thing.may_ask g.T.Thing.turned) l.turns seat) l.seats.items;
  ready : All (λ job. IsSeatOf (IsStep g.T.Thing.fixed g.T.Thing.may_ask g.T.Thing.turned) job.turns.now job.seat × g.T.Thing.may_ask (g.T.Thing.fixed (opening job.turns.now)) 1) l.room.items;
  count : length l.room.items + length l.seats.items ≡ length l.initial.seats.items;
  room : vec_capacity l.room ≡ vec_capacity l.initial.room;
}

abbrev pub decreases-loop-seat : goal.decreases-loop-seat
decreases-loop-seat g l = length l.seats.items
