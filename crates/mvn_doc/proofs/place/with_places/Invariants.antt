use Rattle.std.proofs.Common.{◌≡◌, [], ◌++◌, drop, map}
use Rattle.xml_subset.specs.Element.{shown}
use Rattle.mvn_doc.specs.Place.{placed}
use Rattle.mvn_doc.proofs.place.with_places.Given as goal

-- the elements placed so far and those to come are all of them
abbrev pub invariant-loop-element : goal.invariant-loop-element
invariant-loop-element l =
    l.placed.items ++ placed l.opened.items (map shown (drop l.element-index l.elements)) ≡ placed [] (map shown l.elements)
