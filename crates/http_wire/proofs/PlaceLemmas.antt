-- The place of a head, from line feed to line feed.
use Rattle.std.proofs.Common.{◌≡◌, ◌≢◌, ℕ, suc, ◌+◌, ◌-◌, ◌<◌, ◌≤◌, ◌⊎◌, inl, inr, Bool, true, false, eqb, ◌&&◌, List, [], ◌∷◌, ◌++◌, length, drop, Option, Some, None, refl, sym, ap, ◌∙◌, arith}
use Rattle.std.specs.Option.{option_map}
use Rattle.std.specs.List.{AllByRecursion}
use Rattle.std.proofs.lemmas.Bool.{ne_eqb, eq-eqb}
use Rattle.std.proofs.lemmas.Bool.Decides.{eqb_tells}
use Rattle.http_wire.specs.Front.{begins_with, blank_length, empty_line_end, head_place}
use Rattle.http_wire.specs.Search.{moved, place_from}

-- no line feed is among the bytes
abbrev pub HasNoFeed : List ℕ → Type 0
HasNoFeed bytes = AllByRecursion (λ b. b ≢ 10) bytes

-- an empty line, its line feed left out
abbrev pub IsEmptyLine : List ℕ → Type 0
IsEmptyLine line = (line ≡ []) ⊎ (line ≡ 13 ∷ [])

-- one map after another
pub map-map : {A B C : Type 0} (o : Option A) (f : B → C) (g : A → B) (h : A → C) → ((a : A) → f (g a) ≡ h a)
    → option_map f (option_map g o) ≡ option_map h o
map-map None f g h same = refl
map-map (Some a) f g h same = ap Some (same a)

-- maps that agree
pub map-same : {A B : Type 0} (o : Option A) (f g : A → B) → ((a : A) → f a ≡ g a) → option_map f o ≡ option_map g o
map-same None f g same = refl
map-same (Some a) f g same = ap Some (same a)

pub drop-one : (n b : ℕ) (bytes : List ℕ) → drop (1 + n) (b ∷ bytes) ≡ drop n bytes
drop-one n b bytes = let e : 1 + n ≡ suc n = omega arith in rw e refl

-- a pair of numbers
pub pair : (a b c d : ℕ) → a ≡ c → b ≡ d → (let p : ℕ × ℕ = (a, b) in p) ≡ (c, d)
pair a b c d x y = cc

-- a line that is not empty doesn't begin with CR LF
pub not_crlf : (b : ℕ) (line rest : List ℕ) → HasNoFeed line → ¬ (b ∷ line ≡ 13 ∷ [])
    → (eqb b 13 && begins_with 10 (line ++ 10 ∷ rest)) ≡ false
not_crlf b [] rest none text = let no : eqb b 13 ≡ false = ne_eqb b 13 (λ e. text (ap (λ (x : ℕ). x ∷ []) e)) in rw no refl
not_crlf b (c ∷ line) rest none text =
    let no : eqb c 10 ≡ false = ne_eqb c 10 none.0 in rw no (and-false (eqb b 13))
  where
    and-false : (x : Bool) → (x && false) ≡ false
    and-false true = refl
    and-false false = refl

-- the same where no line feed follows
pub not_crlf_end : (b : ℕ) (line : List ℕ) → HasNoFeed line → (eqb b 13 && begins_with 10 line) ≡ false
not_crlf_end b [] none = and-false (eqb b 13)
  where
    and-false : (x : Bool) → (x && false) ≡ false
    and-false true = refl
    and-false false = refl
not_crlf_end b (c ∷ line) none = let no : eqb c 10 ≡ false = ne_eqb c 10 none.0 in rw no (and-false (eqb b 13))
  where
    and-false : (x : Bool) → (x && false) ≡ false
    and-false true = refl
    and-false false = refl

-- ---- the first empty line

-- bytes with no line feed come before it
pub empty_line_end-append : (line rest : List ℕ) → HasNoFeed line
    → empty_line_end (line ++ rest) ≡ option_map (λ n. length line + n) (empty_line_end rest)
empty_line_end-append [] rest none = id (empty_line_end rest)
  where
    id : (o : Option ℕ) → o ≡ option_map (λ n. 0 + n) o
    id None = refl
    id (Some n) = ap Some (omega arith)
empty_line_end-append (b ∷ line) rest none =
    let no : eqb b 10 ≡ false = ne_eqb b 10 none.0 in
    rw (no, empty_line_end-append line rest none.1)
    (map-map (empty_line_end rest) (λ n. 1 + n) (λ n. length line + n) (λ n. length (b ∷ line) + n) (λ n. omega arith))

-- there is none among bytes with no line feed
pub empty_line_end_none : (line : List ℕ) → HasNoFeed line → empty_line_end line ≡ None
empty_line_end_none [] none = refl
empty_line_end_none (b ∷ line) none =
    let no : eqb b 10 ≡ false = ne_eqb b 10 none.0 in
    rw (no, empty_line_end_none line none.1) refl

-- a line feed that no empty line follows
pub empty_line_end_feed : (bytes : List ℕ) → begins_with 10 bytes ≡ false
    → (begins_with 13 bytes && begins_with 10 (drop 1 bytes)) ≡ false
    → empty_line_end (10 ∷ bytes) ≡ option_map (λ n. 1 + n) (empty_line_end bytes)
empty_line_end_feed bytes lf crlf = rw (lf, crlf) refl

-- after a line feed a line that is not empty leads to the next line feed
pub empty_line_end_next : (line rest : List ℕ) → HasNoFeed line → ¬ (IsEmptyLine line)
    → empty_line_end (10 ∷ (line ++ 10 ∷ rest)) ≡ option_map (λ n. (1 + length line) + n) (empty_line_end (10 ∷ rest))
empty_line_end_next [] rest none text = absurd (text (inl refl))
empty_line_end_next (b ∷ line) rest none text =
    let no : eqb b 10 ≡ false = ne_eqb b 10 none.0 in
    let over : (eqb b 13 && begins_with 10 (line ++ 10 ∷ rest)) ≡ false = not_crlf b line rest none.1 (λ e. text (inr e)) in
    empty_line_end_feed ((b ∷ line) ++ 10 ∷ rest) no over
    ∙ ap (option_map (λ n. 1 + n)) (empty_line_end-append (b ∷ line) (10 ∷ rest) none)
    ∙ map-map (empty_line_end (10 ∷ rest)) (λ n. 1 + n) (λ n. length (b ∷ line) + n) (λ n. (1 + length (b ∷ line)) + n) (λ n. omega arith)

-- after a line feed none is found among bytes with no further one
pub empty_line_end_last : (line : List ℕ) → HasNoFeed line → empty_line_end (10 ∷ line) ≡ None
empty_line_end_last [] none = refl
empty_line_end_last (b ∷ line) none =
    let no : eqb b 10 ≡ false = ne_eqb b 10 none.0 in
    let over : (eqb b 13 && begins_with 10 line) ≡ false = not_crlf_end b line none.1 in
    empty_line_end_feed (b ∷ line) no over ∙ ap (option_map (λ n. 1 + n)) (empty_line_end_none (b ∷ line) none)

-- ---- the head

-- a line that is not empty begins the head
pub blank_length_text : (line rest : List ℕ) → HasNoFeed line → ¬ (IsEmptyLine line) → blank_length (line ++ 10 ∷ rest) ≡ 0
blank_length_text [] rest none text = absurd (text (inl refl))
blank_length_text (b ∷ line) rest none text =
    let no : eqb b 10 ≡ false = ne_eqb b 10 none.0 in
    let over : (eqb b 13 && begins_with 10 (line ++ 10 ∷ rest)) ≡ false = not_crlf b line rest none.1 (λ e. text (inr e)) in
    rw (no, over) refl

pub blank_length_end : (line : List ℕ) → HasNoFeed line → blank_length line ≡ 0
blank_length_end [] none = refl
blank_length_end (b ∷ line) none =
    let no : eqb b 10 ≡ false = ne_eqb b 10 none.0 in
    let over : (eqb b 13 && begins_with 10 line) ≡ false = not_crlf_end b line none.1 in
    rw (no, over) refl

pub head_place_text : (line rest : List ℕ) → HasNoFeed line → ¬ (IsEmptyLine line)
    → head_place (line ++ 10 ∷ rest) ≡ option_map (λ n. (0, length line + n)) (empty_line_end (10 ∷ rest))
unfolding head_place
head_place_text line rest none text =
    let start = blank_length_text line rest none text in
    rw (start, empty_line_end-append line (10 ∷ rest) none)
    (map-map (empty_line_end (10 ∷ rest)) (λ n. (0, 0 + n)) (λ n. length line + n) (λ n. (0, length line + n))
    (λ n. pair 0 (0 + (length line + n)) 0 (length line + n) refl (omega arith)))

pub head_place_end : (line : List ℕ) → HasNoFeed line → head_place line ≡ None
unfolding head_place
head_place_end line none = rw (blank_length_end line none, empty_line_end_none line none) refl

pub head_place_lf : (rest : List ℕ) → head_place (10 ∷ rest) ≡ moved 1 (head_place rest)
unfolding head_place
head_place_lf rest =
    let start = blank_length rest in
    let found = empty_line_end (drop start rest) in
    rw drop-one
    (map-same found (λ n. (1 + start, 1 + start + n)) (λ n. (1 + start, 1 + (start + n))) (λ n. pair _ _ _ _ refl (omega arith))
    ∙ sym (map-map found (λ p. (1 + p.0, 1 + p.1)) (λ n. (start, start + n)) (λ n. (1 + start, 1 + (start + n))) (λ n. refl)))

pub head_place_crlf : (rest : List ℕ) → head_place (13 ∷ 10 ∷ rest) ≡ moved 2 (head_place rest)
unfolding head_place
head_place_crlf rest =
    let start = blank_length rest in
    let found = empty_line_end (drop start rest) in
    let skipped : drop (1 + (1 + start)) (13 ∷ 10 ∷ rest) ≡ drop start rest = drop-one (1 + start) 13 (10 ∷ rest) ∙ drop-one start 10 rest in
    rw skipped
    (map-same found (λ n. (1 + (1 + start), 1 + (1 + start) + n)) (λ n. (2 + start, 2 + (start + n))) (λ n. pair _ _ _ _ (omega arith) (omega arith))
    ∙ sym (map-map found (λ p. (2 + p.0, 2 + p.1)) (λ n. (start, start + n)) (λ n. (2 + start, 2 + (start + n))) (λ n. refl)))

-- ---- a line after the lines before it

moves : (a b c : ℕ) (place : Option (ℕ × ℕ)) → a + b ≡ c → moved a (moved b place) ≡ moved c place
moves a b c place sum =
    map-map place (λ p. (a + p.0, a + p.1)) (λ p. (b + p.0, b + p.1)) (λ p. (c + p.0, c + p.1)) (λ p. pair _ _ _ _ (omega arith) (omega arith))

-- an empty line among the blank lines
pub place_from_blank : (line : List ℕ) (at : ℕ) (rest : List ℕ) → IsEmptyLine line
    → place_from at at (line ++ 10 ∷ rest) ≡ place_from (at + length line + 1) (at + length line + 1) rest
unfolding place_from
place_from_blank line at rest (inl e) = rw (e, eq-eqb at at refl, eq-eqb (at + 0 + 1) (at + 0 + 1) refl, head_place_lf) (moves at 1 (at + 0 + 1) (head_place rest) (omega arith))
place_from_blank line at rest (inr e) = rw (e, eq-eqb at at refl, eq-eqb (at + 1 + 1) (at + 1 + 1) refl, head_place_crlf) (moves at 2 (at + 1 + 1) (head_place rest) (omega arith))

-- an empty line after the head's first line
pub place_from_found : (line : List ℕ) (start at : ℕ) (rest : List ℕ) → start < at → IsEmptyLine line
    → place_from start at (line ++ 10 ∷ rest) ≡ Some (start, at + length line + 1)
unfolding place_from
place_from_found line start at rest below (inl e) =
    let no : eqb start at ≡ false = ne_eqb start at (λ e. omega arith) in
    rw (e, no) (ap Some (pair start (at - 1 + 2) start (at + 0 + 1) refl (omega arith)))
place_from_found line start at rest below (inr e) =
    let no : eqb start at ≡ false = ne_eqb start at (λ e. omega arith) in
    rw (e, no) (ap Some (pair start (at - 1 + 3) start (at + 1 + 1) refl (omega arith)))

-- a line that is not empty
pub place_from_text : (line : List ℕ) (start at : ℕ) (rest : List ℕ) → start ≤ at → HasNoFeed line → ¬ (IsEmptyLine line)
    → place_from start at (line ++ 10 ∷ rest) ≡ place_from start (at + length line + 1) rest
unfolding place_from
place_from_text line start at rest ordered none text = by_start (eqb_tells start at)
  where
    found : Option ℕ
    found = empty_line_end (10 ∷ rest)

    later : eqb start (at + length line + 1) ≡ false
    later = ne_eqb start (at + length line + 1) (λ e. omega arith)

    by_start : ((eqb start at ≡ true) × (start ≡ at)) ⊎ ((eqb start at ≡ false) × (start ≢ at))
        → place_from start at (line ++ 10 ∷ rest) ≡ place_from start (at + length line + 1) rest
    by_start (inl (same, e)) =
        rw (same, later, head_place_text line rest none text)
        (map-map found (λ p. (at + p.0, at + p.1)) (λ n. (0, length line + n)) (λ n. (start, at + length line + 1 - 1 + n))
        (λ n. pair _ _ _ _ (omega arith) (omega arith)))
    by_start (inr (other, ne)) =
        rw (other, later, empty_line_end_next line rest none text)
        (map-map found (λ n. (start, at - 1 + n)) (λ n. (1 + length line) + n) (λ n. (start, at + length line + 1 - 1 + n))
        (λ n. pair _ _ _ _ refl (omega arith)))

-- the last bytes, with no line feed
pub place_from_end : (line : List ℕ) (start at : ℕ) → HasNoFeed line → place_from start at line ≡ None
unfolding place_from
place_from_end line start at none = by_start (eqb start at) refl
  where
    by_start : (t : Bool) → eqb start at ≡ t → place_from start at line ≡ None
    by_start true same = rw (same, head_place_end line none) refl
    by_start false other = rw (other, empty_line_end_last line none) refl
