use Rattle.std.proofs.Common.{◌≡◌, drop, map}
use Rattle.std.specs.List.{filter_map}
use Rattle.toml.specs.Data.{as_table}
use Rattle.toml.specs.View.{view}
use Rattle.settings_keys.specs.Walks.{fault_among}
use Rattle.settings_keys.proofs.walks.fault_among.Given as goal

abbrev pub invariant-loop-item : goal.invariant-loop-item
invariant-loop-item l =
    fault_among l.walk l.kind (filter_map as_table (map view l.items))
    ≡ fault_among l.walk l.kind (filter_map as_table (map view (drop l.item-index l.items)))
