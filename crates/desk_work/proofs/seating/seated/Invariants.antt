use Rattle.std.proofs.Common.{◌≡◌, ◌+◌, ◌++◌, All, map, length, vec_capacity}
use Rattle.std.specs.Vec.Iter.{into_iter_items, into_iter_len}
use Rattle.turn_lock.specs.History.{IsStep}
use Rattle.turn_lock.specs.Seats.{parts_of, IsSeatOf, Same}
use Rattle.desk_work.specs.Working.{IsBegun}
use Rattle.desk_work.proofs.seating.seated.Given as goal

abbrev pub invariant-loop-desk : goal.invariant-loop-desk
invariant-loop-desk g l = record {
  order : l.yielded ++ into_iter_items l.desk-iterator ≡ into_iter_items l.initial.desk-iterator;
  len : into_iter_len l.desk-iterator ≡ length (into_iter_items l.desk-iterator);
  seat : IsSeatOf (IsStep g.T.Thing.fixed g.T.Thing.may_ask g.T.Thing.turned) l.house.turns l.seat;
  same : Same l.initial.seat l.seat;
  left : parts_of l.seat + length l.yielded ≡ parts_of l.initial.seat;
  jobs : All (λ job. (job.house.now ≡ l.house) × IsSeatOf (IsStep g.T.Thing.fixed g.T.Thing.may_ask g.T.Thing.turned) l.house.turns job.seat × IsBegun l.initial.seat job.seat) l.room.items;
  desks : map (λ job. job.desk) l.room.items ≡ l.yielded;
  room : vec_capacity l.room ≡ vec_capacity l.initial.room;
}
