use Rattle.std.proofs.Common.{◌≡◌, ◌++◌, map, length, vec_capacity}
use Rattle.std.specs.List.{list_any}
use Rattle.std.specs.Vec.Iter.{into_iter_items, into_iter_len}
use Rattle.desk_work.proofs.running.parted.Given as goal

abbrev pub invariant-loop-desk : goal.invariant-loop-desk
invariant-loop-desk g l = record {
  order : l.yielded ++ into_iter_items l.desk-iterator ≡ into_iter_items l.initial.desk-iterator;
  len : into_iter_len l.desk-iterator ≡ length (into_iter_items l.desk-iterator);
  desks : l.room.items ≡ map (λ one. one.0) l.yielded;
  failed : l.failed ≡ list_any (λ one. one.1) l.yielded;
  room : vec_capacity l.room ≡ vec_capacity l.initial.room;
}
