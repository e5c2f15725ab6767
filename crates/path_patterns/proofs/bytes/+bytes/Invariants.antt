use Rattle.std.proofs.Common.{◌≡◌, ◌+◌, ◌*◌, length}
use Rattle.path_patterns.specs.Matching.{run_then, segment_matches}
use Rattle.path_patterns.proofs.bytes.+bytes.Given as goal

abbrev pub decreases-match_after_run : goal.decreases-match_after_run
decreases-match_after_run l = 2 * length l.pattern.now + 1

abbrev pub decreases-match_bytes : goal.decreases-match_bytes
decreases-match_bytes l = 2 * length l.pattern.now

abbrev pub invariant-match_after_run-ends : goal.invariant-match_after_run-ends
invariant-match_after_run-ends l =
    run_then (segment_matches l.pattern) l.text ≡ run_then (segment_matches l.pattern) l.left

abbrev pub decreases-match_after_run-ends : goal.decreases-match_after_run-ends
decreases-match_after_run-ends l = length l.left
