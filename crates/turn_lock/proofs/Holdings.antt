-- The one slot that a token holds.
use Rattle.std.proofs.Common.{◌≡◌, ℕ, List, [], ◌∷◌, sym, ap, ◌∙◌}
use Rattle.turn_lock.specs.declared.view.Slot.{Slot}
use Rattle.turn_lock.specs.declared.view.Slot.TheVariants.{Home}

module _ {C R T : Type 0} where
  same_first : (p q : ℕ × Slot C R T) (xs ys : List (ℕ × Slot C R T)) → p ∷ xs ≡ q ∷ ys → p ≡ q
  same_first p q xs ys e = cc

  pub same_home : (x y : T) → ◌≡◌ {A = Slot C R T} (Home x) (Home y) → x ≡ y
  same_home x y e = cc

  -- what was found in the slot is what the token held there
  pub found : (held : List (ℕ × Slot C R T)) (x y : T) (more : List (ℕ × Slot C R T)) → held ≡ (0, Home x) ∷ [] → held ≡ (0, Home y) ∷ more → x ≡ y
  found held x y more is was = same_home x y (ap (λ (p : ℕ × Slot C R T). p.1) (same_first (0, Home x) (0, Home y) [] more (sym is ∙ was)))
