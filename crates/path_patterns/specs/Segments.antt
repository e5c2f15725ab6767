-- The segments of a text of which some are left.
use Rattle.std.specs.Prelude.{ℕ, List, [], Option, Some, None}
use Rattle.std.specs.Borrow.{Bor}
use Rattle.mvn_coords.specs.Segment.{Segment, segments}

-- those of what is left, where anything is
abbrev pub segments_left : Option (Bor (List ℕ)) → List Segment
segments_left None = []
segments_left (Some text) = segments text.now
