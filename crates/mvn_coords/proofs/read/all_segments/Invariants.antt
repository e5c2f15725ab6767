use Rattle.std.proofs.Common.{◌≡◌, length}
use Rattle.std.specs.List.{list_all}
use Rattle.mvn_coords.specs.Segment.{levels, is_segment}
use denote.Shadow.{shadow}
use denote.Text.{Utf8}
use Rattle.mvn_coords.proofs.read.all_segments.Given as goal

abbrev pub invariant-levels : goal.invariant-levels
invariant-levels l = (list_all is_segment (levels l.path) ≡ list_all is_segment (levels l.rest)) × shadow (Utf8 l.rest)

abbrev pub decreases-levels : goal.decreases-levels
decreases-levels l = length l.rest
