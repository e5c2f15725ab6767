-- Lists as they are shown, and lists of which the first that passes a test is changed.
use Rattle.std.proofs.Common.{◌≡◌, Bool, true, false, cond, List, [], ◌∷◌, map, Option, Some, None, find, refl, ap, ◌∙◌}
use Rattle.std.specs.List.{AllByRecursion}
use Rattle.std.specs.Option.{option_map}
use Rattle.repo_model.specs.State.{change_first}

cond-found : {X Y : Type 0} (f : X → Y) (b : Bool) (x : X) (o : Option X) (r : Option Y) → r ≡ option_map f o → cond b (Some (f x)) r ≡ option_map f (cond b (Some x) o)
cond-found f true x o r e = refl
cond-found f false x o r e = e

-- the first that passes a test once it is shown
pub find-map : {X Y : Type 0} (f : X → Y) (p : Y → Bool) (xs : List X) → find p (map f xs) ≡ option_map f (find (λ x. p (f x)) xs)
find-map f p [] = refl
find-map f p (x ∷ xs) = cond-found f (p (f x)) x (find (λ x. p (f x)) xs) (find p (map f xs)) (find-map f p xs)

pub option_map-map : {X Y Z : Type 0} (f : X → Y) (g : Y → Z) (o : Option X) → option_map g (option_map f o) ≡ option_map (λ x. g (f x)) o
option_map-map f g None = refl
option_map-map f g (Some x) = refl

-- what all have once they are shown
pub all-map : {X Y : Type 0} (f : X → Y) (P : Y → Type 0) (xs : List X) → AllByRecursion (λ x. P (f x)) xs → AllByRecursion P (map f xs)
all-map f P [] all = tt
all-map f P (x ∷ xs) all = (all.0, all-map f P xs all.1)

-- a change that is not shown
pub map-change : {X Y : Type 0} (shown : X → Y) (p : X → Bool) (f : X → X) → ((x : X) → shown (f x) ≡ shown x) → (xs : List X) → map shown (change_first p f xs) ≡ map shown xs
map-change shown p f same [] = refl
map-change shown p f same (x ∷ xs) =
    elim (p x) as (λ b. map shown (cond b (f x ∷ xs) (x ∷ change_first p f xs)) ≡ shown x ∷ map shown xs) [
      | true ↦ ap (λ y. y ∷ map shown xs) (same x)
      | false ↦ ap (λ ys. shown x ∷ ys) (map-change shown p f same xs)
    ]

-- what passes first is changed to itself
pub same-all : {X : Type 0} (p : X → Bool) (xs : List X) → change_first p (λ x. x) xs ≡ xs
same-all p [] = refl
same-all p (x ∷ xs) =
    elim (p x) as (λ b. cond b (x ∷ xs) (x ∷ change_first p (λ y. y) xs) ≡ x ∷ xs) [
      | true ↦ refl
      | false ↦ ap (λ rest. x ∷ rest) (same-all p xs)
    ]

-- two changes of the same one
pub change-twice : {X : Type 0} (p : X → Bool) (f g : X → X) → ((x : X) → p (f x) ≡ p x) → (xs : List X) → change_first p g (change_first p f xs) ≡ change_first p (λ x. g (f x)) xs
change-twice p f g same [] = refl
change-twice p f g same (x ∷ xs) =
    elim (p x) as (λ b. p x ≡ b → change_first p g (cond b (f x ∷ xs) (x ∷ change_first p f xs)) ≡ cond b (g (f x) ∷ xs) (x ∷ change_first p (λ y. g (f y)) xs)) [
      | true ↦ λ is. ap (λ b. cond b (g (f x) ∷ xs) (f x ∷ change_first p g xs)) (same x ∙ is)
      | false ↦ λ other.
          ap (λ b. cond b (g x ∷ change_first p f xs) (x ∷ change_first p g (change_first p f xs))) other ∙ ap (λ rest. x ∷ rest) (change-twice p f g same xs)
    ] refl
