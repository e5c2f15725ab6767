use Rattle.std.proofs.Common.{◌≡◌, ◌≤◌, [], false, length}
use Rattle.xml_subset.specs.Document.{fault}
use Rattle.xml_subset.specs.Element.{elements}
use Rattle.xml_subset.specs.Token.{tokens}
use Rattle.xml_subset.specs.Tree.{IsSound, with_rest}
use Rattle.xml_subset.proofs.Reading.{fault_after, tokens_of}
use Rattle.xml_subset.proofs.document.elements.Given as goal

-- the tree and what is left give what the whole gives
abbrev pub invariant-loop-token : goal.invariant-loop-token
invariant-loop-token l = record {
  fault : fault_after l.root l.tree l.rest ≡ fault l.root [] false (tokens l.fn.rest);
  elements : with_rest l.tree (tokens_of l.rest) ≡ elements 0 (tokens_of l.fn.rest);
  sound : IsSound l.tree;
  short : length l.rest ≤ length l.text;
}

abbrev pub decreases-loop-token : goal.decreases-loop-token
decreases-loop-token l = length l.rest
