-- Which texts are patterns, and which paths lists of patterns let through.
use Rattle.std.specs.Prelude.{ℕ, Bool, false, not, ◌&&◌, ◌||◌, ◌==◌, nat_eq, nat_lt, nat_le, List, [], ◌∷◌, length, Option, codes}
use Rattle.std.specs.List.{list_all, list_any, position, starts_with}
use Rattle.std.specs.Str.{bytes_eq}
use Rattle.mvn_coords.specs.Segment.{Segment, segments, is_path_byte}
use Rattle.path_patterns.specs.Matching.{matches}

-- a byte of the alphabet of paths, or `*`
abbrev pub is_pattern_byte : ℕ → Bool
is_pattern_byte b = is_path_byte b || (b == 42)

-- two stars stand side by side
abbrev pub has_two_stars : Segment → Bool
has_two_stars [] = false
has_two_stars (b ∷ bs) = starts_with nat_eq (b ∷ bs) (codes "**") || has_two_stars bs

-- at least one byte of the alphabet; `**` stands alone in its segment
abbrev pub is_pattern_segment : Segment → Bool
is_pattern_segment s =
    nat_lt 0 (length s) && list_all is_pattern_byte s && (bytes_eq s (codes "**") || not (has_two_stars s))

-- each segment is one of a pattern
abbrev pub are_pattern_segments : List ℕ → Bool
are_pattern_segments text = list_all is_pattern_segment (segments text)

-- segments joined by `/`, 1 to 256 bytes in all
abbrev pub is_pattern : List ℕ → Bool
is_pattern text =
    nat_lt 0 (length text) && nat_le (length text) 256 && are_pattern_segments text

-- the place of the first text that is no pattern
abbrev pub first_bad : List (List ℕ) → Option ℕ
first_bad texts = position (λ text. not (is_pattern text)) texts

abbrev pub are_patterns : List (List ℕ) → Bool
are_patterns texts = list_all is_pattern texts

-- a pattern of the list matches the path
abbrev pub some_matches : List (List ℕ) → List ℕ → Bool
some_matches patterns path = list_any (λ pattern. matches pattern path) patterns

-- a pattern of the first list matches the path, and none of the second
abbrev pub is_let_through : List (List ℕ) → List (List ℕ) → List ℕ → Bool
is_let_through allow block path = some_matches allow path && not (some_matches block path)
