use Rattle.std.proofs.Common.{◌≡◌, ◌≤◌, ◌++◌, map, vec_len, vec_capacity}
use Rattle.std.specs.Map.Iter.{deref_pair}
use Rattle.blob_yard.specs.Places.{garbage_of}
use Rattle.blob_yard.proofs.places.push_first.Given as goal

abbrev pub invariant-loop-number : goal.invariant-loop-number
invariant-loop-number l = record {
  out : l.out.items ≡ l.fn.out.items ++ garbage_of (map deref_pair l.yielded);
  room : l.end ≤ vec_capacity l.out;
  short : vec_len l.out ≤ l.end;
}
