-- Whether the rows so far have all digests.
use Rattle.std.proofs.Common.{◌≡◌, true, map}
use Rattle.std.specs.Prelude.{◌↔◌}
use Rattle.std.specs.Map.Iter.{deref_pair}
use Rattle.repo_model.specs.Tables.{AreComplete}
use Rattle.row_tables.specs.Stored.{shown_rows}
use Rattle.row_completion.proofs.completing.are_complete.Given as goal

abbrev pub invariant-loop-row : goal.invariant-loop-row
invariant-loop-row l = l.complete ≡ true ↔ AreComplete (shown_rows (map deref_pair l.yielded))
