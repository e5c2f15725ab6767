-- A property of one of some.
use Rattle.std.proofs.Common.{◌≡◌, ◌⊎◌, inl, inr, List, [], ◌∷◌, ◌++◌, refl}
use Rattle.std.specs.List.{AllByRecursion, flat_map}
use Rattle.repo_laws.specs.Laws.{AnyByRecursion}

module _ {X : Type 0} where
  pub any-then : (P Q : X → Type 0) → ((x : X) → P x → Q x) → (xs : List X) → AnyByRecursion P xs → AnyByRecursion Q xs
  any-then P Q f [] none = none
  any-then P Q f (x ∷ xs) (inl here) = inl (f x here)
  any-then P Q f (x ∷ xs) (inr later) = inr (any-then P Q f xs later)

  pub any-split : (P : X → Type 0) (xs ys : List X) → AnyByRecursion P (xs ++ ys) → AnyByRecursion P xs ⊎ AnyByRecursion P ys
  any-split P [] ys any = inr any
  any-split P (x ∷ xs) ys (inl here) = inl (inl here)
  any-split P (x ∷ xs) ys (inr later) = elim (any-split P xs ys later) as (λ _. AnyByRecursion P (x ∷ xs) ⊎ AnyByRecursion P ys) [ (inl early) ↦ inl (inr early) | (inr late) ↦ inr late ]

  pub any-left : (P : X → Type 0) (xs ys : List X) → AnyByRecursion P xs → AnyByRecursion P (xs ++ ys)
  any-left P [] ys none = absurd none
  any-left P (x ∷ xs) ys (inl here) = inl here
  any-left P (x ∷ xs) ys (inr later) = inr (any-left P xs ys later)

  pub any-right : (P : X → Type 0) (xs ys : List X) → AnyByRecursion P ys → AnyByRecursion P (xs ++ ys)
  any-right P [] ys any = any
  any-right P (x ∷ xs) ys any = inr (any-right P xs ys any)

  -- what all have, the one has
  pub all-any : (P Q : X → Type 0) (Z : Type 0) → ((x : X) → P x → Q x → Z) → (xs : List X) → AllByRecursion P xs → AnyByRecursion Q xs → Z
  all-any P Q Z f [] all none = absurd none
  all-any P Q Z f (x ∷ xs) all (inl here) = f x all.0 here
  all-any P Q Z f (x ∷ xs) all (inr later) = all-any P Q Z f xs all.1 later

  pub all-by : (P : X → Type 0) (xs : List X) → ((x : X) → AnyByRecursion (λ y. y ≡ x) xs → P x) → AllByRecursion P xs
  all-by P [] so = tt
  all-by P (x ∷ xs) so = (so x (inl refl), all-by P xs (λ y there. so y (inr there)))

module _ {X Y : Type 0} (P : Y → Type 0) (f : X → List Y) where
  pub any-flat : (xs : List X) → AnyByRecursion P (flat_map f xs) → AnyByRecursion (λ x. AnyByRecursion P (f x)) xs
  any-flat [] none = none
  any-flat (x ∷ xs) any =
      elim (any-split P (f x) (flat_map f xs) any) as (λ _. AnyByRecursion (λ x. AnyByRecursion P (f x)) (x ∷ xs)) [ (inl here) ↦ inl here | (inr later) ↦ inr (any-flat xs later) ]

  pub flat-any : (xs : List X) → AnyByRecursion (λ x. AnyByRecursion P (f x)) xs → AnyByRecursion P (flat_map f xs)
  flat-any [] none = none
  flat-any (x ∷ xs) (inl here) = any-left P (f x) (flat_map f xs) here
  flat-any (x ∷ xs) (inr later) = any-right P (f x) (flat_map f xs) (flat-any xs later)
