use Rattle.std.proofs.Common.{◌≡◌, ◌-◌, length}
use Rattle.std.specs.Prelude.{IsSome}
use Rattle.http_wire.specs.Front.{head_place}
use Rattle.http_wire.specs.Search.{IsOpen}
use Rattle.http_wire.specs.Stream.{unread}
use Rattle.http_wire.proofs.wires.Wire.find_head.Given as goal

-- the search is open over what is held, and nothing was used up
abbrev pub invariant-loop-start : goal.invariant-loop-start
invariant-loop-start g l =
    let t = g.S.Tells in
    record {
      open_so_far : IsOpen l.self l.place.start l.place.line l.place.at;
      unread_kept : unread l.self (t.left l.source) ≡ unread l.fn.self (t.left l.fn.source);
      read_faults : t.read_faults l.source ≡ t.read_faults l.fn.source;
      taken : t.taken l.source ≡ t.taken l.fn.source;
      write_faults : t.write_faults l.source ≡ t.write_faults l.fn.source;
      unasked : IsSome (head_place l.fn.self) → (l.source ≡ l.fn.source) × (l.self ≡ l.fn.self);
    }

abbrev pub decreases-loop-start : goal.decreases-loop-start
decreases-loop-start g l = 8192 - length l.self
