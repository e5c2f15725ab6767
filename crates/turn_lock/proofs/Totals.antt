-- Sums over views, and facts of each view, when one view changes.
use Rattle.std.proofs.Common.{◌≡◌, ◌≢◌, ℕ, zero, suc, ◌+◌, ◌≤◌, List, [], ◌∷◌, ◌++◌, set, refl, sym, ap, subst, ⊎_elim, arith}
use mathlib.Core.Option.{some, some-ne-none, some-injective}
use lib.ListN.{get_elem?}
use Rattle.atomic_table.proofs.Lists.{at_set, at_snoc}
use Rattle.turn_lock.specs.declared.view.View.{View}
use Rattle.turn_lock.specs.Rule.{total, Each, parts_of}

module _ {C R T : Type 0} where
  pub total_set : (f : View C R T → ℕ) (vs : List (View C R T)) (i : ℕ) (v w : View C R T) → get_elem? vs i ≡ some v → total f (set vs i w) + f v ≡ total f vs + f w
  total_set f [] i v w at = absurd (some-ne-none v (sym at))
  total_set f (x ∷ xs) zero v w at = let e : f x ≡ f v = ap f (some-injective x v at) in omega arith
  total_set f (x ∷ xs) (suc i) v w at = let h = total_set f xs i v w at in omega arith

  pub total_snoc : (f : View C R T → ℕ) (vs : List (View C R T)) (w : View C R T) → total f (vs ++ w ∷ []) ≡ total f vs + f w
  total_snoc f [] w = omega arith
  total_snoc f (x ∷ xs) w = let h = total_snoc f xs w in omega arith

  pub total_at : (f : View C R T → ℕ) (vs : List (View C R T)) (i : ℕ) (v : View C R T) → get_elem? vs i ≡ some v → f v ≤ total f vs
  total_at f [] i v at = absurd (some-ne-none v (sym at))
  total_at f (x ∷ xs) zero v at = let e : f x ≡ f v = ap f (some-injective x v at) in omega arith
  total_at f (x ∷ xs) (suc i) v at = let h = total_at f xs i v at in omega arith

  pub total_two : (f : View C R T → ℕ) (vs : List (View C R T)) (i j : ℕ) (v u : View C R T) → i ≢ j → get_elem? vs i ≡ some v → get_elem? vs j ≡ some u → f v + f u ≤ total f vs
  total_two f [] i j v u apart at there = absurd (some-ne-none v (sym at))
  total_two f (x ∷ xs) zero zero v u apart at there = absurd (apart refl)
  total_two f (x ∷ xs) zero (suc j) v u apart at there = let e : f x ≡ f v = ap f (some-injective x v at) in let h = total_at f xs j u there in omega arith
  total_two f (x ∷ xs) (suc i) zero v u apart at there = let e : f x ≡ f u = ap f (some-injective x u there) in let h = total_at f xs i v at in omega arith
  total_two f (x ∷ xs) (suc i) (suc j) v u apart at there = let h = total_two f xs i j v u (λ e. apart (ap suc e)) at there in omega arith

  -- a view is cut in two
  pub total_cut : (f : View C R T → ℕ) (vs : List (View C R T)) (i : ℕ) (v w u : View C R T) → get_elem? vs i ≡ some v → f w + f u ≡ f v → total f (set vs i w ++ u ∷ []) ≡ total f vs
  total_cut f vs i v w u at sum = let t = total_set f vs i v w at in let s = total_snoc f (set vs i w) u in omega arith

  total_none : (f : View C R T → ℕ) (vs : List (View C R T)) → total parts_of vs ≡ 0 → Each (λ v. v.parts ≡ 0 → f v ≡ 0) vs → total f vs ≡ 0
  total_none f [] none each = refl
  total_none f (x ∷ xs) none each = let here : f x ≡ 0 = each 0 x refl (omega arith) in let rest = total_none f xs (omega arith) (λ by v at. each (suc by) v at) in omega arith

  -- f of the view that has all parts, where f is 0 of each view with none
  pub total_alone : (f : View C R T → ℕ) (vs : List (View C R T)) (i : ℕ) (v : View C R T) → get_elem? vs i ≡ some v → total parts_of vs ≡ v.parts → Each (λ u. u.parts ≡ 0 → f u ≡ 0) vs → total f vs ≡ f v
  total_alone f [] i v at all each = absurd (some-ne-none v (sym at))
  total_alone f (x ∷ xs) zero v at all each =
      let e : f x ≡ f v = ap f (some-injective x v at) in
      let p : x.parts ≡ v.parts = ap parts_of (some-injective x v at) in
      let rest = total_none f xs (omega arith) (λ by u there. each (suc by) u there) in omega arith
  total_alone f (x ∷ xs) (suc i) v at all each =
      let p : v.parts ≤ total parts_of xs = total_at parts_of xs i v at in
      let here : f x ≡ 0 = each 0 x refl (omega arith) in
      let rest = total_alone f xs i v at (omega arith) (λ by u there. each (suc by) u there) in omega arith

  pub each_set : (P : View C R T → Type 0) (vs : List (View C R T)) (i : ℕ) (w : View C R T) → ((j : ℕ) (u : View C R T) → j ≢ i → get_elem? vs j ≡ some u → P u) → P w → Each P (set vs i w)
  each_set P vs i w others here j u at =
      ⊎_elim
      (λ (x : (j ≡ i) × (w ≡ u)). subst P x.1 here)
      (λ (x : (j ≢ i) × (get_elem? vs j ≡ some u)). others j u x.0 x.1)
      (at_set vs i j w u at)

  pub each_snoc : (P : View C R T → Type 0) (vs : List (View C R T)) (w : View C R T) → Each P vs → P w → Each P (vs ++ w ∷ [])
  each_snoc P vs w each here j u at =
      ⊎_elim
      (λ (x : get_elem? vs j ≡ some u). each j u x)
      (λ (x : w ≡ u). subst P x here)
      (at_snoc vs w u j at)
