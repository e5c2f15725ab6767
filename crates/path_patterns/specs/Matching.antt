-- Which paths a pattern matches (Apache Ant's manual, "Directory-based Tasks", "Patterns", with `*` and `**` alone).
use Rattle.std.specs.Prelude.{ℕ, Bool, true, false, ◌&&◌, ◌||◌, ◌==◌, if◌then◌else◌, List, [], ◌∷◌, codes}
use Rattle.std.specs.Str.{bytes_eq}
use Rattle.mvn_coords.specs.Segment.{Segment, segments}

-- nothing is left
abbrev pub is_end : {A : Type 0} → List A → Bool
is_end [] = true
is_end (x ∷ xs) = false

-- one that the test passes, and then the rest
abbrev pub one_then : {A : Type 0} → (A → Bool) → (List A → Bool) → List A → Bool
one_then test rest [] = false
one_then test rest (x ∷ xs) = test x && rest xs

-- any number of them, none included, and then the rest
abbrev pub run_then : {A : Type 0} → (List A → Bool) → List A → Bool
run_then rest [] = rest []
run_then rest (x ∷ xs) = rest (x ∷ xs) || run_then rest xs

-- a segment of a pattern matches one of a path: `*` (42) is any run of bytes, another byte is itself
abbrev pub segment_matches : Segment → Segment → Bool
segment_matches [] text = is_end text
segment_matches (c ∷ pattern) text =
    if c == 42 then run_then (segment_matches pattern) text
    else one_then (λ b. b == c) (segment_matches pattern) text

-- the segments of a pattern match those of a path: `**` is any number of segments
abbrev pub segments_match : List Segment → List Segment → Bool
segments_match [] path = is_end path
segments_match (p ∷ pattern) path =
    if bytes_eq p (codes "**") then run_then (segments_match pattern) path
    else one_then (segment_matches p) (segments_match pattern) path

-- a pattern matches the whole of a path
abbrev pub matches : List ℕ → List ℕ → Bool
matches pattern path = segments_match (segments pattern) (segments path)
