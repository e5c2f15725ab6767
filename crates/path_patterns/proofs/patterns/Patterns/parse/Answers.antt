use Rattle.std.proofs.Common.{◌≡◌, None, map, not, sym, ◌∙◌, string_bytes}
use Rattle.std.proofs.lemmas.List.{take_all}
use Rattle.path_patterns.specs.Pattern.{first_bad, is_pattern}
use Rattle.path_patterns.proofs.Bad.{all_pass, filter-all, position-map}
use Rattle.path_patterns.proofs.patterns.Patterns.parse.Goals as goal

pub returns-in-Some-clause-fault : goal.returns-in-Some-clause-fault
returns-in-Some-clause-fault c =
    position-map (λ text. not (is_pattern text)) string_bytes c.args.patterns.now ∙ sym c.in-Some.ensures

pub returns-clause-ok : goal.returns-clause-ok
returns-clause-ok c =
    let patterns = c.args.patterns.now in
    let none : first_bad (map string_bytes patterns) ≡ None =
    position-map (λ text. not (is_pattern text)) string_bytes patterns ∙ sym c.in_default.ensures in
    let all = filter-all is_pattern (map string_bytes patterns) (all_pass is_pattern (map string_bytes patterns) none) in
    (rw (c.loop-pattern.invariant, take_all c.loop-pattern.pattern-index patterns c.loop-pattern-test.false) all, none)
