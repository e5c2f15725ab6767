use Rattle.std.proofs.Common.{◌≡◌, ◌≤◌, drop, length, None}
use Rattle.mvn_doc.specs.Picked.{last_cut}
use Rattle.mvn_doc.proofs.value.last_cut.Given as goal

-- after the place there is no `-`
abbrev pub invariant-loop-end : goal.invariant-loop-end
invariant-loop-end l = record { behind : last_cut (drop l.end l.bytes) ≡ None; inside : l.end ≤ length l.bytes }

abbrev pub decreases-loop-end : goal.decreases-loop-end
decreases-loop-end l = l.end
