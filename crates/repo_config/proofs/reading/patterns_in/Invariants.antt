use Rattle.std.proofs.Common.{◌≡◌, filter, map, take}
use Rattle.std.specs.List.{filter_map}
use Rattle.toml.specs.Data.{as_str}
use Rattle.toml.specs.View.{view}
use Rattle.path_patterns.specs.Pattern.{is_pattern}
use Rattle.repo_config.proofs.reading.patterns_in.Given as goal

abbrev pub invariant-loop-item : goal.invariant-loop-item
invariant-loop-item l = l.patterns ≡ filter is_pattern (filter_map as_str (map view (take l.item-index l.items)))
