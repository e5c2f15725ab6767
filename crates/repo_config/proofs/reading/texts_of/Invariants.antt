use Rattle.std.proofs.Common.{◌≡◌, map, take}
use Rattle.std.specs.List.{filter_map}
use Rattle.toml.specs.Data.{as_str}
use Rattle.toml.specs.View.{view}
use Rattle.repo_config.proofs.reading.texts_of.Given as goal

abbrev pub invariant-loop-item : goal.invariant-loop-item
invariant-loop-item l = l.texts.items ≡ filter_map as_str (map view (take l.item-index l.items))
