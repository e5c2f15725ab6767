-- Numbers that are sought among others.
use Rattle.std.proofs.Common.{◌≡◌, ℕ, ◌+◌, ◌<◌, ◌≤◌, Bool, true, false, cond, ◌||◌, List, [], ◌∷◌, length, get_or, ◌++◌, fold, max, Result, Ok, Err, is_ok, nat_cmp, arith, refl, sym, ap, ◌∙◌}
use Rattle.std.specs.Prelude.{◌==◌, count_by, nat_lt, MatchResult}
use Rattle.std.specs.List.{list_any}
use Rattle.std.specs.List.Sorted.{IsBinarySearchResult, IsNonDecreasing, IsPermutation}
use Rattle.std.proofs.lemmas.Bool.Decides.{nat_tests}
use Rattle.std.proofs.lemmas.Bool.{eq-eqb}
use borrow.Author.Tests.{ltb-true, ltb-false}
use Rattle.std.proofs.lemmas.List.{get_or_default}
use Rattle.std.proofs.lemmas.List.Folds.{list_any_at, list_any_none}
use Rattle.std.proofs.lemmas.List.Sorted.{searched, sum_by-IsPermutation}
use Rattle.std.proofs.lemmas.List.Sums.{fold-append, sum_by-cons}
use Rattle.repo_model.specs.Restart.{greatest_number}
use Rattle.repo_model.specs.State.{is_among, number_end}

one_if : Bool → ℕ
one_if b = cond b 1 0

-- some element passes where the count is above 0
any-count : {X : Type 0} (p : X → Bool) (xs : List X) → list_any p xs ≡ nat_lt 0 (count_by p xs)
any-count p [] = refl
any-count p (x ∷ xs) =
    let all = sum_by-cons (λ y. cond (p y) 1 0) x xs in
    ap (λ b. p x || b) (any-count p xs) ∙ by (p x) (count_by p xs) ∙ ap (nat_lt 0) (sym all)
  where
    by : (b : Bool) (n : ℕ) → (b || nat_lt 0 n) ≡ nat_lt 0 (cond b 1 0 + n)
    by true n = grind (arith, nat_tests)
    by false n = grind (arith, nat_tests)

-- the same numbers in another order have the same among them
pub among-permutation : (xs ys : List ℕ) → IsPermutation xs ys → (n : ℕ) → is_among n ys ≡ is_among n xs
among-permutation xs ys same n =
    any-count (λ m. m == n) ys ∙ ap (nat_lt 0) (sum_by-IsPermutation (λ m. cond (m == n) 1 0) xs ys same) ∙ sym (any-count (λ m. m == n) xs)

-- a number that lies after some and before the others is none of them
apart-from : (xs : List ℕ) (n i : ℕ) → ((k : ℕ) → k < i → get_or xs k 0 < n) → ((k : ℕ) → i ≤ k → k < length xs → n < get_or xs k 0) → (k d : ℕ) → k < length xs
    → (get_or xs k d == n) ≡ false
apart-from xs n i below above k d inside =
    let m = get_or xs k 0 in
    let same : get_or xs k d ≡ m = get_or_default xs k d 0 inside in
    ap (λ j. j == n) same ∙ by (nat_lt k i) refl
  where
    by : (b : Bool) → nat_lt k i ≡ b → (get_or xs k 0 == n) ≡ false
    by true front = let less : get_or xs k 0 < n = below k (ltb-true k i front) in grind (arith, nat_tests)
    by false behind = let more : n < get_or xs k 0 = above k (ltb-false k i behind) inside in grind (arith, nat_tests)

-- what a binary search finds is whether a number is among those that do not fall
pub searched-among : (xs : List ℕ) (n : ℕ) (r : Result ℕ ℕ) → IsNonDecreasing xs → IsBinarySearchResult (λ y. nat_cmp y n) xs r → is_ok r ≡ is_among n xs
searched-among xs n r order found = by r (searched xs n r found (λ i j up within. order i j 0 up within))
  where
    by : (s : Result ℕ ℕ) → MatchResult s (λ i. (i < length xs) × (get_or xs i 0 ≡ n)) (λ i. (i ≤ length xs) × ((k : ℕ) → k < i → get_or xs k 0 < n) × ((k : ℕ) → i ≤ k → k < length xs → n < get_or xs k 0))
        → is_ok s ≡ is_among n xs
    by (Ok i) found_at = sym (list_any_at (λ m. m == n) xs i 0 found_at.0 (eq-eqb (get_or xs i 0) n found_at.1))
    by (Err i) between = sym (list_any_none (λ m. m == n) xs (apart-from xs n i between.1 between.2))

-- the greater of two numbers, where the second is below the end
abbrev pub greater : ℕ → ℕ → ℕ
greater m n = cond (nat_lt n number_end) (max m n) m

-- one more than the greatest of both
pub above-both : (named stored given : List ℕ) (first last : ℕ) → given ≡ stored → first ≡ fold greater 0 named → last ≡ fold greater first given
    → last + 1 ≡ greatest_number (named ++ stored) + 1
above-both named stored given first last same is_first is_last =
    ap (λ n. n + 1) (is_last ∙ (λ i. fold greater (is_first i) (same i)) ∙ sym (fold-append greater 0 named stored))
