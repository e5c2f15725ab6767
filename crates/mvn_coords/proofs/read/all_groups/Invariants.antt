use Rattle.std.proofs.Common.{◌≡◌, length}
use Rattle.mvn_coords.specs.Segment.{levels}
use Rattle.mvn_coords.specs.Layout.{all_groups}
use denote.Shadow.{shadow}
use denote.Text.{Utf8}
use Rattle.mvn_coords.proofs.read.all_groups.Given as goal

abbrev pub invariant-levels : goal.invariant-levels
invariant-levels l = (all_groups (levels l.path) ≡ all_groups (levels l.rest)) × shadow (Utf8 l.rest)

abbrev pub decreases-levels : goal.decreases-levels
decreases-levels l = length l.rest
