-- Where the elements of a tree stand (XML 1.0, section 3; Maven repository metadata 1.1.0).
use Rattle.std.specs.Prelude.{ℕ, List, [], ◌∷◌, ◌++◌}
use Rattle.xml_subset.specs.Content.{Content, Nothing, Data, Reference, Remark, Leaf, Node, data_of}
use Rattle.xml_subset.specs.Cut.{trimmed}
use Rattle.mvn_doc.specs.declared.place.Place.{Place}
use Rattle.mvn_doc.specs.Place.{Placed, below}

abbrev pub placed_at : Place → List ℕ → Placed
placed_at place text = record { place = place; text = text }

-- the elements of the content of an element at this place, each before those inside it
abbrev pub places : Place → Content → List Placed
places at Nothing = []
places at (Data bytes more) = places at more
places at (Reference c more) = places at more
places at (Remark more) = places at more
places at (Leaf name more) = placed_at (below at name) [] ∷ places at more
places at (Node name inner more) =
    placed_at (below at name) (trimmed (data_of inner)) ∷ (places (below at name) inner ++ places at more)
