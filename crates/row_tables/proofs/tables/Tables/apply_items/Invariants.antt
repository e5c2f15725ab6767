use Rattle.row_tables.proofs.Applied.{SoFar}
use Rattle.row_tables.proofs.tables.Tables.apply_items.Given as goal

abbrev pub invariant-loop-place : goal.invariant-loop-place
invariant-loop-place l = SoFar l.initial.self l.self l.items l.place
