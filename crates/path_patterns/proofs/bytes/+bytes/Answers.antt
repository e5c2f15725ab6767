use Rattle.std.proofs.Common.{◌==◌, eq-eqb}
use Rattle.std.proofs.lemmas.Bool.{ne_eqb}
use Rattle.path_patterns.specs.Matching.{segment_matches}
use Rattle.path_patterns.proofs.Verdicts.{by_end, by_last, by_one, by_run}
use Rattle.path_patterns.proofs.bytes.+bytes.Goals as goal

pub match_after_run-returns-in_default : goal.match_after_run-returns-in_default
match_after_run-returns-in_default t c =
    by_end (segment_matches c.args.pattern.now) c.args.text.now c.ends.left.now c.match_bytes.result c.ends.invariant
    c.in_default.not-Differs c.match_bytes.ensures

pub match_after_run-returns-in-None : goal.match_after_run-returns-in-None
match_after_run-returns-in-None t c =
    by_last (segment_matches c.args.pattern.now) c.args.text.now c.ends.left.now c.ends.invariant c.in-None.ensures.cases
    c.in-Differs.ensures

pub match_bytes-returns-then-wanted-eq42 : goal.match_bytes-returns-then-wanted-eq42
match_bytes-returns-then-wanted-eq42 t c =
    let star = eq-eqb c.in-Some.wanted.now 42 c.if-wanted-eq42.true in
    rw c.in-Some.ensures.cases.0
    (by_run _ (λ b. b == c.in-Some.wanted.now) (segment_matches c.in-Some.behind.now) c.args.text.now c.match_after_run.result star
    c.match_after_run.ensures)

pub match_bytes-returns : goal.match_bytes-returns
match_bytes-returns t c =
    let no_star = ne_eqb _ 42 c.if-wanted-eq42.false in
    rw (c.in-Some.ensures.cases.0, c.in-Some-split_first.ensures.cases.0)
    (by_one _ (λ b. b == c.in-Some.wanted.now) (segment_matches c.in-Some.behind.now) c.in-Some-split_first.byte.now
    c.in-Some-split_first.rest.now c.match_bytes.result no_star (eq-eqb _ _ c.if-byte-wanted.false) c.match_bytes.ensures)
