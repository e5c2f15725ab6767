use Rattle.std.proofs.Common.{◌≡◌, ◌-◌}
use Rattle.row_tables.specs.Reading.{items_at}
use Rattle.repo_rows.proofs.Loop.{with_front}
use Rattle.repo_rows.proofs.items.read_items.Given as goal

abbrev pub invariant-loop : goal.invariant-loop
invariant-loop l = with_front l.items.items (items_at l.version (l.count - l.counter) l.rest) ≡ items_at l.version l.count l.bytes
