-- The first of some, as many as may be: what is among them, or which ones are in its place.
use native.Mathlib.Omega.{arith}
use Rattle.std.proofs.Common.{◌≡◌, ◌≤◌, inl, inr, ℕ, Bool, true, false, cond, List, [], ◌∷◌, ◌++◌, length, map, take, zero, suc, ◌∙◌, ap}
use Rattle.std.specs.Prelude.{filter}
use Rattle.std.specs.List.{AllByRecursion}
use Rattle.repo_model.specs.Data.{Row}
use Rattle.repo_laws.specs.Sound.{AreByPath, IsBelow}
use Rattle.repo_laws.specs.Described.{IsAmong}
use Rattle.naming_laws.proofs.Ones.{among-all}

module _ {X : Type 0} where
  pub few : (k : ℕ) (xs : List X) → length (take k xs) ≤ k
  few zero xs = omega arith
  few (suc k) [] = omega arith
  few (suc k) (x ∷ xs) = omega (arith, few k xs)

  pub taken : (k : ℕ) (x : X) (xs : List X) → IsAmong x (take k xs) → IsAmong x xs
  taken zero x xs none = absurd none
  taken (suc k) x [] none = absurd none
  taken (suc k) x (y ∷ xs) (inl same) = inl same
  taken (suc k) x (y ∷ xs) (inr later) = inr (taken k x xs later)

  pub map-all : {Y : Type 0} (f : X → Y) (P : Y → Type 0) (xs : List X) → AllByRecursion (λ x. P (f x)) xs → AllByRecursion P (map f xs)
  map-all f P [] all = tt
  map-all f P (x ∷ xs) all = (all.0, map-all f P xs all.1)

  pub all-append : (P : X → Type 0) (xs ys : List X) → AllByRecursion P xs → AllByRecursion P ys → AllByRecursion P (xs ++ ys)
  all-append P [] ys first second = second
  all-append P (x ∷ xs) ys first second = (first.0, all-append P xs ys first.1 second)

-- rows in byte order of path: those that pass before one of them have a path before its own
abbrev pub IsParted : (Row → Bool) → List Row → Row → Type 0
IsParted q rows row = (before : List Row) × (after : List Row) × (filter q rows ≡ before ++ row ∷ after) × AllByRecursion (λ (r : Row). IsBelow r.path row) before

pub parted : (q : Row → Bool) (rows : List Row) (row : Row) → AreByPath rows → IsAmong row rows → q row ≡ true → IsParted q rows row
parted q [] row sorted none passes = absurd none
parted q (r ∷ rows) row sorted (inl same) passes =
    ([], filter q rows, ap (λ b. cond b (r ∷ filter q rows) (filter q rows)) (ap q same ∙ passes) ∙ ap (λ (x : Row). x ∷ filter q rows) same, tt)
parted q (r ∷ rows) row sorted (inr later) passes =
    let (before, after, is, all) = parted q rows row sorted.1 later passes in
    elim (q r) as (λ b. (early : List Row) × (late : List Row) × (cond b (r ∷ filter q rows) (filter q rows) ≡ early ++ row ∷ late) × AllByRecursion (λ (x : Row). IsBelow x.path row) early) [
      | true ↦ (r ∷ before, after, ap (λ xs. r ∷ xs) is, (among-all (IsBelow r.path) row rows later sorted.0, all))
      | false ↦ (before, after, is, all)
    ]
