use Rattle.std.proofs.Common.{◌≡◌, filter, take}
use Rattle.path_patterns.specs.Pattern.{is_pattern}
use Rattle.path_patterns.proofs.patterns.Patterns.copied.Given as goal

abbrev pub invariant-loop-text : goal.invariant-loop-text
invariant-loop-text l = l.copy ≡ filter is_pattern (take l.text-index l.self)
