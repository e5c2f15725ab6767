-- Tests joined by `&&`, and lists whose elements all pass.
use Rattle.std.proofs.Common.{◌≡◌, Bool, true, false, ◌&&◌, List, [], ◌∷◌, refl}
use Rattle.std.specs.List.{list_all, filter}
use Rattle.std.specs.Prelude.{if◌then◌else◌}

pub both : (a b : Bool) → a ≡ true → b ≡ true → (a && b) ≡ true
both true b p q = q
both false b p q = absurd cc

pub first : (a b : Bool) → (a && b) ≡ true → a ≡ true
first true b h = refl
first false b h = absurd cc

pub second : (a b : Bool) → (a && b) ≡ true → b ≡ true
second true b h = h
second false b h = absurd cc

pub list_all_weaker : {X : Type 0} (p q : X → Bool) (xs : List X) → ((x : X) → p x ≡ true → q x ≡ true) → list_all p xs ≡ true → list_all q xs ≡ true
list_all_weaker p q [] w h = refl
list_all_weaker p q (x ∷ xs) w h =
    both (q x) (list_all q xs) (w x (first (p x) (list_all p xs) h)) (list_all_weaker p q xs w (second (p x) (list_all p xs) h))

pub list_all_filter : {X : Type 0} (p t : X → Bool) (xs : List X) → list_all p xs ≡ true → list_all p (filter t xs) ≡ true
list_all_filter p t [] h = refl
list_all_filter p t (x ∷ xs) h =
    let rest = list_all_filter p t xs (second (p x) (list_all p xs) h) in
    elim (t x) as (λ b. list_all p (if b then x ∷ filter t xs else filter t xs) ≡ true) [
      | true ↦ both (p x) (list_all p (filter t xs)) (first (p x) (list_all p xs) h) rest
      | false ↦ rest
    ]
