use Rattle.std.proofs.Common.{◌≡◌, map, reverse}
use Rattle.mvn_version.specs.Element.{shown}
use Rattle.mvn_version.specs.Key.{elements, is_joined, zeros_trail}
use Rattle.mvn_version.specs.Order.{ended}
use Rattle.mvn_version.proofs.Gathering.{behind, kept}
use Rattle.mvn_version.proofs.element.elements.Given as goal

-- the elements are those of the tokens so far, and what the next one needs is known of these
abbrev pub invariant-loop-token : goal.invariant-loop-token
invariant-loop-token l = record {
  keyed : map shown (reverse l.elements.items) ≡ ended (elements (behind l.tokens l.token-index));
  trails : l.trail ≡ zeros_trail (kept (behind l.tokens l.token-index));
  joins : l.joined ≡ is_joined (behind l.tokens l.token-index);
}
