use Rattle.std.proofs.Common.{◌≡◌, [], drop, take}
use Rattle.settings_keys.specs.Ids.{first_twice}
use Rattle.settings_keys.proofs.Items.{texts}
use Rattle.settings_keys.proofs.lists.are_distinct.Given as goal

abbrev pub invariant-loop-index : goal.invariant-loop-index
invariant-loop-index l =
    first_twice [] (texts l.items) ≡ first_twice (texts (take l.index l.items)) (texts (drop l.index l.items))
