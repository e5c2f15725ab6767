-- The place of a head doesn't change by the bytes after it.
use Rattle.std.proofs.Common.{◌≡◌, ◌≢◌, ℕ, ◌+◌, ◌≤◌, Bool, true, false, eqb, cond, ◌&&◌, ◌||◌, List, [], ◌∷◌, ◌++◌, length, drop, Option, Some, None, refl, sym, ap, ◌∙◌, arith, lit≤, length-drop}
use Rattle.std.specs.Prelude.{IfSome}
use Rattle.std.specs.Option.{option_map}
use Rattle.std.proofs.lemmas.List.{drop-append-le}
use Rattle.http_wire.specs.Front.{begins_with, blank_length, empty_line_end, head_place}
use Rattle.http_wire.proofs.PlaceLemmas.{drop-one}

-- ---- the first empty line

-- what is told of one byte and the rest
abbrev step : Bool → Bool → Option ℕ → Option ℕ
step two three later = cond two (Some 2) (cond three (Some 3) (option_map (λ n. 1 + n) later))

step_none : (two three : Bool) → two ≡ false → three ≡ false → step two three None ≡ None
step_none two three a b = rw (a, b) refl

and-no : (x : Bool) → (x && false) ≡ false
and-no true = refl
and-no false = refl

one_byte : (b : ℕ) → empty_line_end (b ∷ []) ≡ None
one_byte b = step_none (eqb b 10 && false) (eqb b 10 && (false && begins_with 10 (drop 1 []))) (and-no (eqb b 10)) (and-no (eqb b 10))

-- two further bytes decide
step_stays : (two three : Bool) (later more : Option ℕ) → step two three later ≢ None → (later ≢ None → more ≡ later)
    → step two three more ≡ step two three later
step_stays true three later more some same = refl
step_stays false true later more some same = refl
step_stays false false later more some same =
    ap (option_map (λ n. 1 + n)) (same (λ e. some (ap (option_map (λ n. 1 + n)) e)))

pub empty_line_end_stays : (bytes more : List ℕ) → empty_line_end bytes ≢ None → empty_line_end (bytes ++ more) ≡ empty_line_end bytes
empty_line_end_stays [] more some = absurd (some refl)
empty_line_end_stays (b ∷ []) more some = absurd (some (one_byte b))
empty_line_end_stays (b ∷ c ∷ []) more some = by_two (eqb b 10 && eqb c 10) refl
  where
    by_two : (t : Bool) → (eqb b 10 && eqb c 10) ≡ t → empty_line_end (b ∷ c ∷ more) ≡ empty_line_end (b ∷ c ∷ [])
    by_two true two = rw two refl
    by_two false two = absurd (some (
        ap (λ (later : Option ℕ). step (eqb b 10 && eqb c 10) (eqb b 10 && (eqb c 13 && false)) (later)) (one_byte c)
        ∙ step_none (eqb b 10 && eqb c 10) (eqb b 10 && (eqb c 13 && false)) two (ap (λ (x : Bool). eqb b 10 && x) (and-no (eqb c 13)) ∙ and-no (eqb b 10))))
empty_line_end_stays (b ∷ c ∷ d ∷ bytes) more some =
    step_stays (eqb b 10 && eqb c 10) (eqb b 10 && (eqb c 13 && eqb d 10)) (empty_line_end (c ∷ d ∷ bytes))
    (empty_line_end (c ∷ d ∷ (bytes ++ more))) some (empty_line_end_stays (c ∷ d ∷ bytes) more)

-- it ends within the bytes
pub empty_line_end_within : (bytes : List ℕ) → IfSome (empty_line_end bytes) (λ n. n ≤ length bytes)
empty_line_end_within [] = tt
empty_line_end_within (b ∷ []) = rw (one_byte b) tt
empty_line_end_within (b ∷ c ∷ []) =
    within (eqb b 10 && eqb c 10) (eqb b 10 && (eqb c 13 && false)) (empty_line_end (c ∷ [])) 2 (lit≤ tt) (ap (λ (x : Bool). eqb b 10 && x) (and-no (eqb c 13)) ∙ and-no (eqb b 10)) (rw (one_byte c) tt)
  where
    within : (two three : Bool) (later : Option ℕ) (n : ℕ) → 2 ≤ n → three ≡ false → IfSome later (λ m. 1 + m ≤ n) → IfSome (step two three later) (λ m. m ≤ n)
    within true three later n le fails rest = le
    within false three None n le fails rest = rw fails tt
    within false three (Some m) n le fails rest = rw fails rest
empty_line_end_within (b ∷ c ∷ d ∷ bytes) =
    within (eqb b 10 && eqb c 10) (eqb b 10 && (eqb c 13 && eqb d 10)) (empty_line_end (c ∷ d ∷ bytes)) (empty_line_end_within (c ∷ d ∷ bytes))
  where
    within : (two three : Bool) (later : Option ℕ) → IfSome later (λ m. m ≤ length (c ∷ d ∷ bytes))
        → IfSome (step two three later) (λ m. m ≤ length (b ∷ c ∷ d ∷ bytes))
    within true three later rest = omega arith
    within false true later rest = omega arith
    within false false None rest = tt
    within false false (Some m) rest = omega (arith, rest)

-- ---- the blank lines

pub blank_length-le : (bytes : List ℕ) → blank_length bytes ≤ length bytes
blank_length-le [] = omega arith
blank_length-le (b ∷ bytes) = within (blank_length-le bytes) (eqb b 10 || (eqb b 13 && begins_with 10 bytes))
  where
    within : blank_length bytes ≤ length bytes → (t : Bool) → cond t (1 + blank_length bytes) 0 ≤ length (b ∷ bytes)
    within rest true = omega (arith, rest)
    within rest false = omega arith

pub blank_length_stays : (bytes more : List ℕ) → empty_line_end (drop (blank_length bytes) bytes) ≢ None
    → blank_length (bytes ++ more) ≡ blank_length bytes
blank_length_stays [] more some = absurd (some refl)
blank_length_stays (b ∷ []) more some = absurd (by_blank (eqb b 10 || (eqb b 13 && false)) refl)
  where
    by_blank : (t : Bool) → (eqb b 10 || (eqb b 13 && false)) ≡ t → ⊥
    by_blank true is = some (rw is refl)
    by_blank false is = some (rw is (one_byte b))
blank_length_stays (b ∷ c ∷ bytes) more some =
    by_blank (blank_length_stays (c ∷ bytes) more) (eqb b 10 || (eqb b 13 && eqb c 10)) refl
  where
    by_blank : (empty_line_end (drop (blank_length (c ∷ bytes)) (c ∷ bytes)) ≢ None → blank_length (c ∷ (bytes ++ more)) ≡ blank_length (c ∷ bytes))
        → (t : Bool) → (eqb b 10 || (eqb b 13 && eqb c 10)) ≡ t → blank_length (b ∷ c ∷ (bytes ++ more)) ≡ blank_length (b ∷ c ∷ bytes)
    by_blank next true is =
        let here : blank_length (b ∷ c ∷ bytes) ≡ 1 + blank_length (c ∷ bytes) = rw is refl in
        let there : blank_length (b ∷ c ∷ (bytes ++ more)) ≡ 1 + blank_length (c ∷ (bytes ++ more)) = rw is refl in
        let behind : drop (blank_length (b ∷ c ∷ bytes)) (b ∷ c ∷ bytes) ≡ drop (blank_length (c ∷ bytes)) (c ∷ bytes)
        = ap (λ (n : ℕ). drop n (b ∷ c ∷ bytes)) here ∙ drop-one (blank_length (c ∷ bytes)) b (c ∷ bytes) in
        there ∙ ap (λ (n : ℕ). 1 + n) (next (λ e. some (ap empty_line_end behind ∙ e))) ∙ sym here
    by_blank next false is = rw is refl

-- ---- the head

pub head_place_stays : (bytes more : List ℕ) → head_place bytes ≢ None → head_place (bytes ++ more) ≡ head_place bytes
unfolding head_place
head_place_stays bytes more some =
    let start = blank_length bytes in
    let found : empty_line_end (drop start bytes) ≢ None = λ e. some (ap (option_map (λ n. (start, start + n))) e) in
    let same = blank_length_stays bytes more found in
    let rest : drop start (bytes ++ more) ≡ drop start bytes ++ more = drop-append-le start bytes more (blank_length-le bytes) in
    ap (λ (k : ℕ). option_map (λ n. (k, k + n)) (empty_line_end (drop k (bytes ++ more)))) same
    ∙ ap (λ (l : List ℕ). option_map (λ n. (start, start + n)) (empty_line_end l)) rest
    ∙ ap (option_map (λ n. (start, start + n))) (empty_line_end_stays (drop start bytes) more found)

-- its end is not before its start, and within the bytes
abbrev pub IsPlaceIn : List ℕ → ℕ × ℕ → Type 0
IsPlaceIn bytes place = (place.0 ≤ place.1) × (place.1 ≤ length bytes)

pub head_place_within : (bytes : List ℕ) → IfSome (head_place bytes) (IsPlaceIn bytes)
unfolding head_place
head_place_within bytes = within (empty_line_end (drop (blank_length bytes) bytes)) (empty_line_end_within (drop (blank_length bytes) bytes))
  where
    within : (found : Option ℕ) → IfSome found (λ n. n ≤ length (drop (blank_length bytes) bytes))
        → IfSome (option_map (λ n. (blank_length bytes, blank_length bytes + n)) found) (IsPlaceIn bytes)
    within None le = tt
    within (Some n) le = (omega arith, omega (arith, le, length-drop (blank_length bytes) bytes, blank_length-le bytes))
