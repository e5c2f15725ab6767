-- How many pass a test, and how many files are staged, after each change of them.
use native.Mathlib.Omega.{arith}
use Rattle.std.proofs.Common.{◌≡◌, ◌≤◌, ◌+◌, Bool, true, false, cond, List, [], ◌∷◌, length, Some, refl, subst}
use Rattle.std.specs.Prelude.{filter, find, count_by}
use Rattle.std.specs.List.{AllByRecursion}
use Rattle.std.specs.Ordering.{nat_cmp, match_ordering}
use Rattle.std.specs.declared.cmp.Ordering.TheVariants.{Less, Equal, Greater}
use Rattle.std.specs.Cmp.Lexicographic.{slice_cmp}
use Rattle.std.proofs.lemmas.List.Sums.{count_by-le-length, length-filter}
use Rattle.repo_model.specs.Data.{Staged}
use Rattle.repo_model.specs.State.{change_first}
use Rattle.repo_model.specs.Effect.{with_staged}
use Rattle.repo_laws.proofs.Counts.{one_if, count-cons}

module _ {X : Type 0} where
  -- where the first that passes a test is changed, and counts no more than before, all count no more
  pub first-counts : (p q : X → Bool) (f : X → X) → ((x : X) → one_if (p (f x)) ≤ one_if (p x)) → (xs : List X) → count_by p (change_first q f xs) ≤ count_by p xs
  first-counts p q f fewer [] = omega arith
  first-counts p q f fewer (x ∷ xs) =
      let before = count-cons p x xs in
      elim (q x) as (λ b. count_by p (cond b (f x ∷ xs) (x ∷ change_first q f xs)) ≤ count_by p (x ∷ xs)) [
        | true ↦ omega (arith, before, fewer x, count-cons p (f x) xs)
        | false ↦ omega (arith, before, count-cons p x (change_first q f xs), first-counts p q f fewer xs)
      ]

  -- where it has what all have, all have it still
  pub first-has : (P : X → Type 0) (q : X → Bool) (f : X → X) (xs : List X) (x : X) → AllByRecursion P xs → find q xs ≡ Some x → P (f x) → AllByRecursion P (change_first q f xs)
  first-has P q f [] x all is new = tt
  first-has P q f (first ∷ xs) x all is new =
      elim (q first) as (λ b. cond b (Some first) (find q xs) ≡ Some x → AllByRecursion P (cond b (f first ∷ xs) (first ∷ change_first q f xs))) [
        | true ↦ λ found. let x_is : x ≡ first = cc in (subst (λ y. P (f y)) x_is new, all.1)
        | false ↦ λ found. (all.0, first-has P q f xs x all.1 found new)
      ] is

  pub filter-fewer : (q : X → Bool) (xs : List X) → length (filter q xs) ≤ length xs
  filter-fewer q xs = omega (arith, length-filter q xs, count_by-le-length q xs)

pub one-more : (new : Staged) (files : List Staged) → length (with_staged new files) ≡ length files + 1
one-more new [] = refl
one-more new (file ∷ files) =
    elim (slice_cmp nat_cmp new.path file.path)
    as (λ order. length (match_ordering order (new ∷ file ∷ files) (new ∷ file ∷ files) (file ∷ with_staged new files)) ≡ length (file ∷ files) + 1) [
      | Less ↦ omega arith
      | Equal ↦ omega arith
      | Greater ↦ omega (arith, one-more new files)
    ]
