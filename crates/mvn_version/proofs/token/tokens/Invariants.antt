use Rattle.std.proofs.Common.{◌≡◌, ◌-◌, ◌≤◌, ◌∷◌, map, reverse, drop, take, length}
use Rattle.mvn_version.specs.Token.{shown, tokens, dotted}
use Rattle.mvn_version.proofs.token.tokens.Given as goal

-- the open token goes up to `end`, and those after it are pushed
abbrev pub invariant-loop-i : goal.invariant-loop-i
invariant-loop-i l = record {
  before_end : l.i ≤ l.end;
  within : l.end ≤ length l.text;
  cut : tokens (drop l.i l.text) ≡ dotted (take (l.end - l.i) (drop l.i l.text)) ∷ map shown (reverse l.tokens.items);
}
