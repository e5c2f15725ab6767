use Rattle.std.proofs.Common.{length, ap, sym, ◌∙◌}
use Rattle.path_patterns.specs.Matching.{segment_matches, segments_match}
use Rattle.path_patterns.specs.Segments.{segments_left}
use Rattle.path_patterns.proofs.Splits.{some_segment}
use Rattle.path_patterns.proofs.Verdicts.{by_end, by_last, by_one, by_run}
use Rattle.path_patterns.proofs.segments.+segments.Goals as goal

pub match_after_run-returns-in_default : goal.match_after_run-returns-in_default
match_after_run-returns-in_default t c =
    by_end (segments_match (segments_left c.args.pattern)) (segments_left c.args.path) (segments_left c.ends.left)
    c.match_segments.result c.ends.invariant c.in_default.not-Differs c.match_segments.ensures

pub match_after_run-returns-in-None : goal.match_after_run-returns-in-None
match_after_run-returns-in-None t c =
    by_last (segments_match (segments_left c.args.pattern)) (segments_left c.args.path) (segments_left c.ends.left)
    c.ends.invariant (ap (λ o. length (segments_left o)) c.in-None.is) c.in-Differs.ensures

pub match_segments-returns-then-is_run : goal.match_segments-returns-then-is_run
match_segments-returns-then-is_run t c =
    rw (c.in-Some.is, c.split_segment.ensures)
    (by_run _ (segment_matches c.split_segment.result.0.now) (segments_match (segments_left c.split_segment.result.1))
    (segments_left c.args.path) c.match_after_run.result (sym c.is_run.ensures ∙ c.if-is_run.true) c.match_after_run.ensures)

pub match_segments-returns : goal.match_segments-returns
match_segments-returns t c =
    rw (c.in-Some.is, c.in-Some-path-2.is, c.split_segment.ensures, c.split_segment-2.ensures)
    (by_one _ (segment_matches c.split_segment.result.0.now) (segments_match (segments_left c.split_segment.result.1))
    c.split_segment-2.result.0.now (segments_left c.split_segment-2.result.1) c.match_segments.result
    (sym c.is_run.ensures ∙ c.if-is_run.false) (sym c.segment_matches.ensures ∙ c.if-not-segment_matches.false) c.match_segments.ensures)

pub match_segments-returns-in-Some-path : goal.match_segments-returns-in-Some-path
match_segments-returns-in-Some-path t c = rw (c.in_default.is, c.in-Some-path.is) (some_segment c.in-Some-path.field-0.now)
