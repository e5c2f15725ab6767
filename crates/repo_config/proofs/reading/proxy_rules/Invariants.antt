use Rattle.std.proofs.Common.{◌≡◌, map, take}
use Rattle.std.specs.List.{filter_map}
use Rattle.toml.specs.Data.{as_table}
use Rattle.toml.specs.View.{view}
use Rattle.repo_config.specs.Reading.{proxy_rule}
use Rattle.repo_config.proofs.reading.proxy_rules.Given as goal

abbrev pub invariant-loop-item : goal.invariant-loop-item
invariant-loop-item l = l.rules.items ≡ map proxy_rule (filter_map as_table (map view (take l.item-index l.items)))
