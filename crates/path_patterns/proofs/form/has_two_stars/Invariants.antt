use Rattle.std.proofs.Common.{◌≡◌, length}
use Rattle.path_patterns.specs.Pattern.{has_two_stars}
use Rattle.path_patterns.proofs.form.has_two_stars.Given as goal

abbrev pub invariant-places : goal.invariant-places
invariant-places l = has_two_stars l.segment ≡ has_two_stars l.rest

abbrev pub decreases-places : goal.decreases-places
decreases-places l = length l.rest
