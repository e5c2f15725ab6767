-- The lines of the files so far.
use Rattle.std.proofs.Common.{◌≡◌, take}
use Rattle.std.specs.List.{flat_map}
use Rattle.store_check.specs.Lines.{damaged_line}
use Rattle.store_check.proofs.lines.damaged_lines.Given as goal

abbrev pub invariant-loop-damaged : goal.invariant-loop-damaged
invariant-loop-damaged l = l.text.items ≡ flat_map damaged_line (take l.damaged-index l.damages)
