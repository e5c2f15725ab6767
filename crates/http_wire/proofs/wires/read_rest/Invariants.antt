use Rattle.std.proofs.Common.{◌≡◌, ℕ, ◌-◌, ◌≤◌}
use Rattle.std.specs.Prelude.{vec_capacity, vec_len}
use Rattle.http_wire.specs.Held.{Grows}
use Rattle.http_wire.proofs.wires.read_rest.Given as goal

abbrev pub invariant-loop-body : goal.invariant-loop-body
invariant-loop-body g l = record {
  within : vec_len l.body ≤ l.count;
  room : l.count ≤ vec_capacity l.body;
  given : (n : ℕ) × Grows l.fn.body.items (g.S.Tells.left l.fn.source) l.body.items (g.S.Tells.left l.source) n;
  unasked : vec_len l.fn.body ≡ l.count → l.source ≡ l.fn.source;
  read_faults : g.S.Tells.read_faults l.source ≡ g.S.Tells.read_faults l.fn.source;
  taken : g.S.Tells.taken l.source ≡ g.S.Tells.taken l.fn.source;
  write_faults : g.S.Tells.write_faults l.source ≡ g.S.Tells.write_faults l.fn.source;
}

abbrev pub decreases-loop-body : goal.decreases-loop-body
decreases-loop-body g l = l.count - vec_len l.body
