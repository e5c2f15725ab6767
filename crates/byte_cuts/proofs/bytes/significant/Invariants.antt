use Rattle.std.proofs.Common.{◌≡◌, ◌≤◌, length}
use Rattle.byte_cuts.specs.Cuts.{significant}
use Rattle.byte_cuts.proofs.bytes.significant.Given as goal

abbrev pub invariant-loop-digits : goal.invariant-loop-digits
invariant-loop-digits l = record {
  same : significant l.digits ≡ significant l.fn.digits;
  short : length l.digits ≤ length l.fn.digits;
}

abbrev pub decreases-loop-digits : goal.decreases-loop-digits
decreases-loop-digits l = length l.digits
