use Rattle.std.proofs.Common.{◌≡◌, filter, map, take, string_bytes}
use Rattle.path_patterns.specs.Pattern.{is_pattern}
use Rattle.path_patterns.proofs.patterns.Patterns.parse.Given as goal

abbrev pub invariant-loop-pattern : goal.invariant-loop-pattern
invariant-loop-pattern l = l.parsed ≡ filter is_pattern (map string_bytes (take l.pattern-index l.patterns))
