-- The first segment of a text, and what is after it.
use Rattle.std.proofs.Common.{◌≡◌, ℕ, ◌+◌, ◌-◌, ◌<◌, ◌≤◌, Bool, true, false, cond, eqb, ltb, List, [], ◌∷◌, length, take, drop, Some, None, refl, arith}
use Rattle.std.specs.List.{position, position_or_len}
use Rattle.std.proofs.lemmas.Bool.{ltb-false, ltb-true}
use Rattle.std.proofs.lemmas.List.{length-drop}
use Rattle.std.proofs.lemmas.List.Splits.{length-slice_split, slice_split_first, slice_split_none}
use Rattle.std.proofs.lemmas.List.Sums.{fails_before_first}
use Rattle.std.proofs.Math.Seq.{take-length}
use Rattle.mvn_coords.specs.Segment.{segments}
use Rattle.path_patterns.specs.Matching.{is_end}

abbrev slash : ℕ → Bool
slash b = eqb b 47

all_left : (text : List ℕ) (n : ℕ) → take (length text - n) (drop n text) ≡ drop n text
all_left text n = rw (← length-drop n text) (take-length (drop n text))

at_slash : (text : List ℕ) (at : ℕ) (b : Bool) → ltb (position_or_len slash text) (length text) ≡ b
    → cond b (Some (position_or_len slash text)) None ≡ Some at
    → segments text ≡ take at text ∷ segments (take (length text - (at + 1)) (drop (at + 1) text))
at_slash text at true e h =
    let n : position_or_len slash text ≡ at = cc in
    rw (all_left text (at + 1), ← n) (slice_split_first slash text 0 (ltb-true _ _ e))
at_slash text at false e h = cc

without_slash : (text : List ℕ) (b : Bool) → ltb (position_or_len slash text) (length text) ≡ b
    → cond b (Some (position_or_len slash text)) None ≡ None → segments text ≡ text ∷ []
without_slash text true e h = cc
without_slash text false e h =
    let all : length text ≤ position_or_len slash text = ltb-false _ _ e in
    slice_split_none slash text (λ k d l. fails_before_first slash text k d (omega arith))

pub split_at : (text : List ℕ) (at : ℕ) → position slash text ≡ Some at
    → segments text ≡ take at text ∷ segments (take (length text - (at + 1)) (drop (at + 1) text))
split_at text at h = at_slash text at _ refl h

pub split_none : (text : List ℕ) → position slash text ≡ None → segments text ≡ text ∷ []
split_none text h = without_slash text _ refl h

not_end : (parts : List (List ℕ)) → 0 < length parts → is_end parts ≡ false
not_end [] h = absurd (omega arith)
not_end (part ∷ parts) h = refl

-- a text has a segment
pub some_segment : (text : List ℕ) → is_end (segments text) ≡ false
some_segment text = not_end (segments text) (omega (arith, length-slice_split slash text))
