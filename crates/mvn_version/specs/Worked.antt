-- Versions in rising order, and versions that are alike.
use Rattle.std.specs.Prelude.{◌≡◌, ℕ, List, [], ◌∷◌}
use Rattle.std.specs.declared.cmp.Ordering.TheVariants.{Less, Equal}
use Rattle.mvn_version.specs.Order.{version_cmp}

-- each version is below the next
abbrev pub IsRising : List (List ℕ) → Type 0
IsRising [] = Unit {0}
IsRising (v ∷ []) = Unit {0}
IsRising (v ∷ w ∷ vs) = (version_cmp v w ≡ Less) × IsRising (w ∷ vs)

-- each version is as the next
abbrev pub AreAlike : List (List ℕ) → Type 0
AreAlike [] = Unit {0}
AreAlike (v ∷ []) = Unit {0}
AreAlike (v ∷ w ∷ vs) = (version_cmp v w ≡ Equal) × AreAlike (w ∷ vs)
