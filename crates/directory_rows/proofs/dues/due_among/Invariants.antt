use Rattle.std.proofs.Common.{◌≡◌, map, filter, take, string_bytes}
use Rattle.std.specs.List.{All}
use Rattle.std.specs.Map.Iter.{deref_pair}
use Rattle.repo_model.specs.Purge.{most_rows}
use Rattle.directory_rows.specs.Dues.{is_due_row, IsRight}
use Rattle.ordered_rows.specs.Rows.{shown_rows}
use Rattle.directory_rows.specs.Rules.{shown_rule}
use Rattle.directory_rows.proofs.dues.due_among.Given as goal

-- the paths of the rows so far that are to fade
abbrev pub invariant-loop-path : goal.invariant-loop-path
invariant-loop-path g l = record {
  right : All (IsRight (shown_rule l.rule) l.now (shown_rows l.rows.entries)) l.known.items;
  found : map string_bytes l.paths.items ≡ map (λ row. row.path) (take most_rows (filter (is_due_row (shown_rule l.rule) l.now (shown_rows l.rows.entries)) (shown_rows (map deref_pair l.yielded))));
}
