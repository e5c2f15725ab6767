-- What a merge shows is the merge of what its lists show.
use Rattle.std.proofs.Common.{◌≡◌, Bool, true, false, cond, List, [], ◌∷◌, map, refl, ap, subst}
use Rattle.itertools.specs.List.{merge_by, merge_at}

module _ {A B : Type 0} (f : A → B) (h : A → A → Bool) (g : B → B → Bool) (same : (x y : A) → h x y ≡ g (f x) (f y)) where
  map-at : (x : A) (xs : List A) (after : List A → List A) (after' : List B → List B) → ((ys : List A) → map f (after ys) ≡ after' (map f ys)) → (ys : List A)
      → map f (merge_at h x xs after ys) ≡ merge_at g (f x) (map f xs) after' (map f ys)
  map-at x xs after after' so [] = refl
  map-at x xs after after' so (y ∷ ys) =
      subst (λ b. map f (cond (h x y) (x ∷ after (y ∷ ys)) (y ∷ merge_at h x xs after ys)) ≡ cond b (f x ∷ after' (f y ∷ map f ys)) (f y ∷ merge_at g (f x) (map f xs) after' (map f ys)))
      (same x y)
      (elim (h x y) as (λ b. map f (cond b (x ∷ after (y ∷ ys)) (y ∷ merge_at h x xs after ys)) ≡ cond b (f x ∷ after' (f y ∷ map f ys)) (f y ∷ merge_at g (f x) (map f xs) after' (map f ys))) [
        | true ↦ ap (λ r. f x ∷ r) (so (y ∷ ys))
        | false ↦ ap (λ r. f y ∷ r) (map-at x xs after after' so ys)
      ])

  pub map-merge : (xs ys : List A) → map f (merge_by h xs ys) ≡ merge_by g (map f xs) (map f ys)
  map-merge [] ys = refl
  map-merge (x ∷ xs) ys = map-at x xs (merge_by h xs) (merge_by g (map f xs)) (map-merge xs) ys

pub map-twice : {A B C : Type 0} (f : B → C) (g : A → B) (xs : List A) → map (λ x. f (g x)) xs ≡ map f (map g xs)
map-twice f g [] = refl
map-twice f g (x ∷ xs) = ap (λ rest. f (g x) ∷ rest) (map-twice f g xs)
