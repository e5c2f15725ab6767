-- A loop that takes the first elements that pass a test, and stops once it has so many.
use Rattle.std.proofs.Common.{◌≡◌, ℕ, ◌<◌, ◌≤◌, Bool, true, false, cond, List, [], ◌∷◌, ◌++◌, length, take, map, filter, sym, ap, ◌∙◌, arith, length-append}
use Rattle.std.proofs.lemmas.List.{length-map, length-take, map-append, take_all, take-append-le}
use Rattle.std.proofs.lemmas.List.Elements.{filter-append}

module _ {A : Type 0} (p : A → Bool) (n : ℕ) where
  pub taken_more : (front : List A) (x : A) → length (take n (filter p front)) < n → take n (filter p (front ++ x ∷ [])) ≡ take n (filter p front) ++ cond (p x) (x ∷ []) []
  taken_more front x few =
      let short : length (filter p front) < n = omega (arith, length-take n (filter p front), few) in
      let one : length (cond (p x) (x ∷ []) []) ≤ 1 = elim (p x) as (λ b. length (cond b (x ∷ []) []) ≤ 1) [ true ↦ omega arith | false ↦ omega arith ] in
      ap (take n) (filter-append p front (x ∷ []))
      ∙ take_all n (filter p front ++ cond (p x) (x ∷ []) []) (omega (arith, length-append (filter p front) (cond (p x) (x ∷ []) [])))
      ∙ ap (λ xs. xs ++ cond (p x) (x ∷ []) []) (sym (take_all n (filter p front) (omega arith)))

  pub taken_full : (front rest : List A) → length (take n (filter p front)) ≡ n → take n (filter p (front ++ rest)) ≡ take n (filter p front)
  taken_full front rest full =
      ap (take n) (filter-append p front rest) ∙ take-append-le n (filter p front) (filter p rest) (omega (arith, length-take n (filter p front), full))

module _ {A B : Type 0} (f : A → B) (p : A → Bool) (n : ℕ) where
  count_is : (found : List B) (front : List A) → found ≡ map f (take n (filter p front)) → length (take n (filter p front)) ≡ length found
  count_is found front is = sym (ap length is ∙ length-map (take n (filter p front)) f)

  pub found_full : (found : List B) (all front rest : List A) → found ≡ map f (take n (filter p front)) → length found ≡ n → all ≡ front ++ rest → found ≡ map f (take n (filter p all))
  found_full found all front rest is full split =
      is ∙ ap (map f) (sym (taken_full p n front rest (count_is found front is ∙ full))) ∙ ap (λ xs. map f (take n (filter p xs))) (sym split)

  pub found_more : (found : List B) (front : List A) (x : A) → found ≡ map f (take n (filter p front)) → (length found ≡ n → ⊥)
      → found ++ cond (p x) (f x ∷ []) [] ≡ map f (take n (filter p (front ++ x ∷ [])))
  found_more found front x is few =
      let short : length (take n (filter p front)) < n = omega (arith, few, count_is found front is, length-take n (filter p front)) in
      ap (λ xs. xs ++ cond (p x) (f x ∷ []) []) is
      ∙ elim (p x) as (λ b. map f (take n (filter p front)) ++ cond b (f x ∷ []) [] ≡ map f (take n (filter p front) ++ cond b (x ∷ []) [])) [
        | true ↦ sym (map-append f (take n (filter p front)) (x ∷ []))
        | false ↦ sym (map-append f (take n (filter p front)) [])
      ]
      ∙ ap (map f) (sym (taken_more p n front x short))
