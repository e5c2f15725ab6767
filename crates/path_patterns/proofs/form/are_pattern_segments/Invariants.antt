use Rattle.std.proofs.Common.{◌≡◌, length}
use Rattle.std.specs.List.{list_all}
use Rattle.path_patterns.specs.Pattern.{are_pattern_segments, is_pattern_segment}
use Rattle.path_patterns.specs.Segments.{segments_left}
use Rattle.path_patterns.proofs.form.are_pattern_segments.Given as goal

abbrev pub invariant-segments : goal.invariant-segments
invariant-segments l = are_pattern_segments l.text ≡ list_all is_pattern_segment (segments_left l.left)

abbrev pub decreases-segments : goal.decreases-segments
decreases-segments l = length (segments_left l.left)
