use Rattle.std.proofs.Common.{arith}
use Rattle.std.proofs.lemmas.Bool.Decides.{nat_tests}
use Rattle.settings_keys.proofs.Items.{pattern_list-view}
use Rattle.settings_keys.proofs.lists.is_pattern_list.Goals as goal

pub returns-then-items-le100 : goal.returns-then-items-le100
returns-then-items-le100 c =
    rw (pattern_list-view _ c.in-Some.items.now c.in-Some.ensures.0 c.in-Some.ensures.1) (grind (arith, nat_tests))

pub returns-else-items-le100 : goal.returns-else-items-le100
returns-else-items-le100 c =
    rw (pattern_list-view _ c.in-Some.items.now c.in-Some.ensures.0 c.in-Some.ensures.1) (grind (arith, nat_tests))
