use Rattle.std.proofs.Common.{◌≡◌, ◌+◌, ◌≤◌, All, length, vec_capacity}
use Rattle.turn_lock.specs.History.{IsStep}
use Rattle.turn_lock.specs.Seats.{given, parts_of, IsSeatOf, Same, IsFresh, Rise}
use Rattle.turn_lock.proofs.many.split_many.Given as goal

abbrev pub invariant-loop : goal.invariant-loop
invariant-loop g l = record {
  seat : IsSeatOf (IsStep g.T.Thing.fixed g.T.Thing.may_ask g.T.Thing.turned) l.turns l.seat;
  same : Same l.initial.seat l.seat;
  left : parts_of l.seat + l.counter ≡ parts_of l.initial.seat;
  new : All (λ other. IsSeatOf (IsStep g.T.Thing.fixed g.T.Thing.may_ask g.T.Thing.turned) l.turns other × IsFresh l.initial.seat other) l.room.items;
  numbers : Rise (given l.initial.seat) l.room.items (given l.seat);
  len : length l.room.items ≡ l.counter;
  within : l.counter ≤ l.count;
  room : vec_capacity l.room ≡ vec_capacity l.initial.room;
}
