-- The bytes so far are the blob's first ones, where it tells them; the count is as it was.
use Rattle.std.proofs.Common.{◌≡◌, ◌<◌, ◌-◌, ◌^◌, length, take}
use Rattle.std.specs.Prelude.{IfSome}
use Rattle.outside_memory.proofs.whole.read_whole.Given as goal

abbrev pub invariant-pieces : goal.invariant-pieces
invariant-pieces g l = record {
  below : l.at < 2 ^ 63;
  place : l.at ≡ length l.bytes.items;
  first : IfSome (g.B.Held.Held.bytes l.held) (λ them. take (length l.bytes.items) them ≡ l.bytes.items);
  faults : g.B.Blobs.faults l.blobs ≡ g.B.Blobs.faults l.fn.blobs;
}

abbrev pub decreases-pieces : goal.decreases-pieces
decreases-pieces g l = 2 ^ 63 - l.at
