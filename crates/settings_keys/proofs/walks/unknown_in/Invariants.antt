use Rattle.std.proofs.Common.{◌≡◌}
use Rattle.toml.specs.View.{members_view, table_view}
use Rattle.settings_keys.specs.Keys.{unknown_in}
use Rattle.settings_keys.proofs.walks.unknown_in.Given as goal

abbrev pub invariant-names : goal.invariant-names
invariant-names l = unknown_in l.kind (members_view l.name-iterator) ≡ unknown_in l.kind (table_view l.table)
