-- The numbers of the rows so far were added.
use Rattle.std.proofs.Common.{◌≡◌, ◌++◌, map}
use Rattle.std.specs.Map.Iter.{deref_pair}
use Rattle.repo_model.specs.Tables.{RecordedRow}
use Rattle.row_tables.specs.Stored.{shown_rows}
use Rattle.repo_restart.proofs.numbers.push_numbers.Given as goal

abbrev pub invariant-loop-row : goal.invariant-loop-row
invariant-loop-row l = l.numbers.items ≡ l.fn.numbers.items ++ map (λ (r : RecordedRow). r.row.blob.number) (shown_rows (map deref_pair l.yielded))
