use Rattle.std.proofs.Common.{◌≡◌, length}
use Rattle.mvn_digest.specs.Sides.{has_sign}
use Rattle.mvn_digest.proofs.sides.has_sign.Given as goal

abbrev pub invariant-loop-line : goal.invariant-loop-line
invariant-loop-line l = has_sign l.line ≡ has_sign l.initial.line

abbrev pub decreases-loop-line : goal.decreases-loop-line
decreases-loop-line l = length l.line
