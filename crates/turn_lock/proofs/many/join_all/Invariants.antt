use Rattle.std.proofs.Common.{◌≡◌, ◌++◌, All, map, length, vec_capacity}
use Rattle.std.specs.Vec.Iter.{into_iter_items, into_iter_len}
use Rattle.turn_lock.specs.History.{IsStep}
use Rattle.turn_lock.specs.Seats.{IsSeatOf, JoinsAll}
use Rattle.turn_lock.proofs.many.join_all.Given as goal

abbrev pub invariant-loop-other : goal.invariant-loop-other
invariant-loop-other g l = record {
  order : l.yielded ++ into_iter_items l.other-iterator ≡ into_iter_items l.initial.other-iterator;
  len : into_iter_len l.other-iterator ≡ length (into_iter_items l.other-iterator);
  left : All (λ other. IsSeatOf (IsStep g.T.Thing.fixed g.T.Thing.may_ask g.T.Thing.turned) l.turns other.0) (into_iter_items l.other-iterator);
  seat : IsSeatOf (IsStep g.T.Thing.fixed g.T.Thing.may_ask g.T.Thing.turned) l.turns l.seat;
  joined : JoinsAll l.initial.seat (map (λ other. other.0) l.yielded) l.seat;
  back : l.room.items ≡ map (λ other. other.1) l.yielded;
  room : vec_capacity l.room ≡ vec_capacity l.initial.room;
}
