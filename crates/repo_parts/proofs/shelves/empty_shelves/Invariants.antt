use Rattle.std.proofs.Common.{List, take}
use Rattle.repo_model.specs.Data.{Hosted, Proxy}
use Rattle.repo_parts.specs.Shelves.{AreShelved}
use Rattle.repo_parts.proofs.shelves.empty_shelves.Given as goal

-- an empty shelf for each group so far
abbrev pub invariant-loop-group : goal.invariant-loop-group
invariant-loop-group l = (hosted : List Hosted) (proxies : List Proxy) → AreShelved (take l.group-index l.groups) hosted proxies l.shelves.items
