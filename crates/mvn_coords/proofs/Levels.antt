-- A path cut at its slashes, from the last segment to the first.
use Rattle.std.proofs.Common.{◌≡◌, ℕ, Bool, true, false, List, [], ◌∷◌, ◌++◌, reverse, ◌⊎◌, inl, inr, refl, ap, sym, ◌∙◌}
use Rattle.std.specs.List.{slice_split, list_any, join_with_byte}
use Rattle.std.proofs.lemmas.Bool.{or_parts, or_from, eqb-true}
use Rattle.std.proofs.lemmas.List.{reverse-append, reverse-reverse, append_assoc}
use Rattle.std.proofs.lemmas.List.Splits.{join_with_byte-slice_split}
use Rattle.mvn_coords.specs.Segment.{levels, path_of_levels, Segment}
use Rattle.mvn_coords.proofs.Cuts.{slash, split_onto}

-- no byte of a text is a slash
abbrev pub Whole : List ℕ → Type 0
Whole b = list_any slash b ≡ false

split_whole : (b : List ℕ) → Whole b → slice_split slash b ≡ b ∷ []
split_whole [] h = refl
split_whole (x ∷ xs) h =
    let p = or_parts (slash x) (list_any slash xs) h in
    rw (p.0, split_whole xs p.1) refl

split_at_last : (a b : List ℕ) → Whole b → slice_split slash (a ++ 47 ∷ b) ≡ slice_split slash a ++ b ∷ []
split_at_last [] b h = ap (λ v. [] ∷ v) (split_whole b h)
split_at_last (x ∷ xs) b h = split_onto (slash x) x xs b (split_at_last xs b h)

pub levels_whole : (b : List ℕ) → Whole b → levels b ≡ b ∷ []
levels_whole b h = ap reverse (split_whole b h)

pub levels_below : (a b : List ℕ) → Whole b → levels (a ++ 47 ∷ b) ≡ b ∷ levels a
levels_below a b h = ap reverse (split_at_last a b h) ∙ reverse-append (slice_split slash a) (b ∷ [])

-- a path is one segment, or a path, a slash and a segment
pub record LastCut (path : List ℕ) : Type 0 where
  pub above : List ℕ
  pub last : List ℕ
  pub joined : path ≡ above ++ 47 ∷ last
  pub whole : Whole last

pub last_cut : (path : List ℕ) → Whole path ⊎ LastCut path
last_cut [] = inl refl
last_cut (x ∷ xs) = by_rest x xs (last_cut xs) (slash x) refl
  where
    by_rest : (x : ℕ) (xs : List ℕ) → Whole xs ⊎ LastCut xs → (t : Bool) → slash x ≡ t → Whole (x ∷ xs) ⊎ LastCut (x ∷ xs)
    by_rest x xs (inr c) t e = inr (record { above = x ∷ c.above; last = c.last; joined = ap (λ v. x ∷ v) c.joined; whole = c.whole })
    by_rest x xs (inl w) true e = inr (record { above = []; last = xs; joined = ap (λ v. v ∷ xs) (eqb-true x 47 e); whole = w })
    by_rest x xs (inl w) false e = inl (or_from (slash x) (list_any slash xs) e w)

-- a path has a last segment
pub record Filled (path : List ℕ) : Type 0 where
  pub last : Segment
  pub above : List Segment
  pub split : levels path ≡ last ∷ above

pub filled : (path : List ℕ) → Filled path
filled path = by_cut (last_cut path)
  where
    by_cut : Whole path ⊎ LastCut path → Filled path
    by_cut (inl w) = record { last = path; above = []; split = levels_whole path w }
    by_cut (inr c) = record { last = c.last; above = levels c.above; split = ap levels c.joined ∙ levels_below c.above c.last c.whole }

-- the segments, joined, are the path
pub path_of_levels-levels : (path : List ℕ) → path_of_levels (levels path) ≡ path
path_of_levels-levels path = ap (join_with_byte 47) (reverse-reverse (slice_split slash path)) ∙ join_with_byte-slice_split 47 path

-- a path of two segments or more
pub below : (path : List ℕ) (last next : Segment) (above : List Segment) → levels path ≡ last ∷ next ∷ above → (rest : List ℕ) × (path ≡ rest ++ 47 ∷ last) × (levels rest ≡ next ∷ above)
below path last next above e = by_cut (last_cut path)
  where
    by_cut : Whole path ⊎ LastCut path → (rest : List ℕ) × (path ≡ rest ++ 47 ∷ last) × (levels rest ≡ next ∷ above)
    by_cut (inl w) = let one = levels_whole path w in cc
    by_cut (inr c) =
        let split : levels path ≡ c.last ∷ levels c.above = ap levels c.joined ∙ levels_below c.above c.last c.whole in
        let same : c.last ≡ last = cc in
        (c.above, c.joined ∙ ap (λ v. c.above ++ 47 ∷ v) same, cc)

pub one_segment : (path : List ℕ) (last : Segment) → levels path ≡ last ∷ [] → path ≡ last
one_segment path last e = sym (path_of_levels-levels path) ∙ ap path_of_levels e

-- a text without a slash at the end of a path is at the end of its last segment
list_any-append : (a b : List ℕ) → Whole a → Whole b → Whole (a ++ b)
list_any-append [] b h k = k
list_any-append (x ∷ xs) b h k =
    let p = or_parts (slash x) (list_any slash xs) h in
    or_from (slash x) (list_any slash (xs ++ b)) p.0 (list_any-append xs b p.1 k)

pub levels_longer : (path end : List ℕ) (last : Segment) (above : List Segment) → Whole end → levels path ≡ last ∷ above → levels (path ++ end) ≡ (last ++ end) ∷ above
levels_longer path end last above w e = by_cut (last_cut path)
  where
    by_cut : Whole path ⊎ LastCut path → levels (path ++ end) ≡ (last ++ end) ∷ above
    by_cut (inl h) =
        let one = levels_whole path h in
        let same : path ≡ last = cc in
        let none : [] ≡ above = cc in
        levels_whole (path ++ end) (list_any-append path end h w) ∙ rw (same, none) refl
    by_cut (inr c) =
        let split : levels path ≡ c.last ∷ levels c.above = ap levels c.joined ∙ levels_below c.above c.last c.whole in
        let same : c.last ≡ last = cc in
        let rest : levels c.above ≡ above = cc in
        let longer : path ++ end ≡ c.above ++ 47 ∷ (c.last ++ end) = ap (λ v. v ++ end) c.joined ∙ append_assoc c.above (47 ∷ c.last) end in
        ap levels longer ∙ levels_below c.above (c.last ++ end) (list_any-append c.last end c.whole w) ∙ rw (same, rest) refl
