use Rattle.std.proofs.Common.{◌≡◌, ◌+◌, ◌*◌, length}
use Rattle.path_patterns.specs.Matching.{run_then, segments_match}
use Rattle.path_patterns.specs.Segments.{segments_left}
use Rattle.path_patterns.proofs.segments.+segments.Given as goal

abbrev pub decreases-match_after_run : goal.decreases-match_after_run
decreases-match_after_run l = 2 * length (segments_left l.pattern) + 1

abbrev pub decreases-match_segments : goal.decreases-match_segments
decreases-match_segments l = 2 * length (segments_left l.pattern)

abbrev pub invariant-match_after_run-ends : goal.invariant-match_after_run-ends
invariant-match_after_run-ends l =
    let rest = segments_match (segments_left l.pattern) in
    run_then rest (segments_left l.path) ≡ run_then rest (segments_left l.left)

abbrev pub decreases-match_after_run-ends : goal.decreases-match_after_run-ends
decreases-match_after_run-ends l = length (segments_left l.left)
