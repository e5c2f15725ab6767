-- Where the first text that is no pattern stands.
use Rattle.std.proofs.Common.{◌≡◌, ℕ, ◌+◌, ◌≤◌, Bool, true, false, not, ◌&&◌, cond, ltb, List, [], ◌∷◌, length, map, Some, None, add-one, refl, ap, arith}
use Rattle.std.specs.List.{filter, list_all, position, position_or_len, prefix_len}
use Rattle.std.proofs.lemmas.Bool.{and_parts, ltb-false}
use Rattle.std.proofs.lemmas.List.{length-map}

prefix_len-map : {X Y : Type 0} (p : Y → Bool) (f : X → Y) (xs : List X) → prefix_len p (map f xs) ≡ prefix_len (λ x. p (f x)) xs
prefix_len-map p f [] = refl
prefix_len-map p f (x ∷ xs) = ap (λ n. cond (p (f x)) (1 + n) 0) (prefix_len-map p f xs)

pub position-map : {X Y : Type 0} (p : Y → Bool) (f : X → Y) (xs : List X) → position p (map f xs) ≡ position (λ x. p (f x)) xs
position-map p f xs = rw (prefix_len-map (λ y. not (p y)) f xs, length-map xs f) refl

-- one more in front
all_by_first : (b : Bool) (n len : ℕ) (rest : Bool) → (len ≤ n → rest ≡ true) → len + 1 ≤ cond (not (not b)) (1 + n) 0 → (b && rest) ≡ true
all_by_first true n len rest ih h = ih (omega arith)
all_by_first false n len rest ih h = absurd (omega arith)

all_by_len : {X : Type 0} (p : X → Bool) (xs : List X) → length xs ≤ prefix_len (λ x. not (not (p x))) xs → list_all p xs ≡ true
all_by_len p [] h = refl
all_by_len p (x ∷ xs) h = all_by_first (p x) _ (length xs) _ (all_by_len p xs) (rw add-one h)

pub all_pass : {X : Type 0} (p : X → Bool) (xs : List X) → position (λ x. not (p x)) xs ≡ None → list_all p xs ≡ true
all_pass p xs h = by (ltb (position_or_len (λ x. not (p x)) xs) (length xs)) refl h
  where
    by : (b : Bool) → ltb (position_or_len (λ x. not (p x)) xs) (length xs) ≡ b
        → cond b (Some (position_or_len (λ x. not (p x)) xs)) None ≡ None → list_all p xs ≡ true
    by true e h = cc
    by false e h = all_by_len p xs (ltb-false _ _ e)

kept_first : {X : Type 0} (b : Bool) (x : X) (xs kept : List X) → b ≡ true → kept ≡ xs → cond b (x ∷ kept) kept ≡ x ∷ xs
kept_first b x xs kept h e = rw (h, e) refl

-- where all pass, all are kept
pub filter-all : {X : Type 0} (p : X → Bool) (xs : List X) → list_all p xs ≡ true → filter p xs ≡ xs
filter-all p [] h = refl
filter-all p (x ∷ xs) h = let parts = and_parts (p x) (list_all p xs) h in kept_first (p x) x xs (filter p xs) parts.0 (filter-all p xs parts.1)
