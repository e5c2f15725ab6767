-- Numbers in use, as some come and others go; and things with such numbers, as rows and staged files, which their owners have in lists.
use native.Mathlib.Omega.{arith}
use Rattle.std.proofs.Common.{◌≡◌, ℕ, ◌+◌, ◌≤◌, ◌==◌, Bool, true, false, not, cond, ◌||◌, if◌then◌else◌, List, [], ◌∷◌, zero, suc, refl, sym, ap, ◌∙◌, subst, eqb-true, rules}
use Rattle.std.specs.Prelude.{IsTrue, count_by, nat_lt, sum_by}
use Rattle.std.specs.List.{AllByRecursion}
use Rattle.std.proofs.lemmas.Bool.{false≢true}
use Rattle.std.proofs.lemmas.Bool.Decides.{nat_tests}
use Rattle.std.proofs.lemmas.List.Sums.{sum_by-cons}
use Rattle.repo_model.specs.State.{Yard, is_among}
use Rattle.repo_model.specs.Effect.{condemning, with_number, without_number}
use Rattle.repo_laws.specs.Laws.{count_of}
use Rattle.repo_laws.proofs.Counts.{count-cons, count-with_number, one_if}
use Rattle.repo_parts.specs.Purge.{AreKeptOnce, condemned_by, kept_without}

pub or-right : (a b : Bool) → IsTrue b → IsTrue (a || b)
or-right true b h = refl
or-right false b h = h

or-more : (a b c : Bool) → (IsTrue b → IsTrue c) → IsTrue (a || b) → IsTrue (a || c)
or-more true b c more h = refl
or-more false b c more h = more h

or-else : (b c : Bool) → (b ≡ true → ⊥) → IsTrue (b || c) → IsTrue c
or-else true c other h = absurd (other refl)
or-else false c other h = h

-- ---- one more number
among-more : (m n : ℕ) (ns : List ℕ) → IsTrue (is_among m ns) → IsTrue (is_among m (with_number n ns))
among-more m n [] h = cc
among-more m n (k ∷ ks) h =
    elim (nat_lt k n) as (λ b. IsTrue (is_among m (if b then k ∷ with_number n ks else n ∷ k ∷ ks))) [
      | true ↦ or-more (k == m) (is_among m ks) (is_among m (with_number n ks)) (among-more m n ks) h
      | false ↦ or-right (n == m) (is_among m (k ∷ ks)) h
    ]

pub here-so : (n : ℕ) (rest : Bool) → IsTrue ((n == n) || rest)
here-so n rest = search rules

pub among-new : (n : ℕ) (ns : List ℕ) → IsTrue (is_among n (with_number n ns))
among-new n [] = here-so n false
among-new n (k ∷ ks) =
    elim (nat_lt k n) as (λ b. IsTrue (is_among n (if b then k ∷ with_number n ks else n ∷ k ∷ ks))) [
      | true ↦ or-right (k == n) (is_among n (with_number n ks)) (among-new n ks)
      | false ↦ here-so n (is_among n (k ∷ ks))
    ]

-- ---- some go
among-without : (m n : ℕ) (ns : List ℕ) → IsTrue (is_among m ns) → (m == n) ≡ false → IsTrue (is_among m (without_number n ns))
among-without m n [] among other = among
among-without m n (k ∷ ks) among other =
    elim (k == n) as (λ b. (k == n) ≡ b → IsTrue (is_among m (cond (not b) (k ∷ without_number n ks) (without_number n ks)))) [
      | true ↦ λ is.
          let apart : (k == m) ≡ true → ⊥ = λ same. let so : (m == n) ≡ true = grind (arith, nat_tests) in false≢true (sym other ∙ so) in
          among-without m n ks (or-else (k == m) (is_among m ks) apart among) other
      | false ↦ λ is. or-more (k == m) (is_among m ks) (is_among m (without_number n ks)) (λ rest. among-without m n ks rest other) among
    ] refl

-- a number that stands nowhere in a list is not that of its items
apart-first : (n m : ℕ) (ns : List ℕ) → count_of n (m ∷ ns) ≡ 0 → ((m == n) ≡ false) × (count_of n ns ≡ 0)
apart-first n m ns none = (by (m == n) refl, omega (arith, count-cons (λ k. k == n) m ns, none)) where
  by : (b : Bool) → (m == n) ≡ b → b ≡ false
  by true is = let one : one_if (m == n) ≡ 1 = ap one_if is in absurd (omega (arith, count-cons (λ k. k == n) m ns, none, one))
  by false is = refl

turned-round : (m n : ℕ) → (m == n) ≡ false → (n == m) ≡ false
turned-round m n other = grind (arith, nat_tests)

others-kept : (n : ℕ) (kept ns : List ℕ) → AllByRecursion (λ m. IsTrue (is_among m kept)) ns → count_of n ns ≡ 0 → AllByRecursion (λ m. IsTrue (is_among m (without_number n kept))) ns
others-kept n kept [] all none = tt
others-kept n kept (m ∷ ns) all none =
    let apart = apart-first n m ns none in
    (among-without m n kept all.0 apart.0, others-kept n kept ns all.1 apart.1)

-- numbers in use that stand once each
pub kept-once : (ns kept : List ℕ) → AllByRecursion (λ m. IsTrue (is_among m kept)) ns → ((n : ℕ) → count_of n ns ≤ 1) → AreKeptOnce ns kept
kept-once [] kept all once = tt
kept-once (n ∷ ns) kept all once =
    let one : one_if (n == n) ≡ 1 = grind (arith, nat_tests) in
    let none : count_of n ns ≡ 0 = omega (arith, count-cons (λ k. k == n) n ns, once n, one) in
    let rest : (m : ℕ) → count_of m ns ≤ 1 = λ m. omega (arith, count-cons (λ k. k == m) n ns, once m) in
    (all.0, kept-once ns (without_number n kept) (others-kept n kept ns all.1 none) rest)

-- a number that is none of those that go stays in use
pub kept-still : (n : ℕ) (ns kept : List ℕ) → IsTrue (is_among n kept) → count_of n ns ≡ 0 → IsTrue (is_among n (kept_without ns kept))
kept-still n [] kept among none = among
kept-still n (m ∷ ns) kept among none =
    let apart = apart-first n m ns none in
    kept-still n ns (without_number m kept) (among-without n m kept among (turned-round m n apart.0)) apart.1

pub count-condemned : (n : ℕ) (ns : List ℕ) (yard : Yard) → count_of n (condemned_by ns yard).condemned ≡ count_of n ns + count_of n yard.condemned
count-condemned n [] yard = let none : count_of n [] ≡ 0 = refl in omega (arith, none)
count-condemned n (m ∷ ns) yard =
    omega (arith, count-condemned n ns (condemning m yard), count-with_number n m yard.condemned, count-cons (λ k. k == n) m ns)

-- ---- things, each of which has a number
module _ {X : Type 0} (number : X → ℕ) where
  abbrev pub has_number : ℕ → X → Bool
  has_number n x = number x == n

  abbrev pub AreUsed : List ℕ → List X → Type 0
  AreUsed kept xs = AllByRecursion (λ x. IsTrue (is_among (number x) kept)) xs

  -- the number of one is in use
  one-used : (kept : List ℕ) (n : ℕ) (xs : List X) → AreUsed kept xs → 1 ≤ count_by (has_number n) xs → IsTrue (is_among n kept)
  one-used kept n [] used some = absurd (let none : count_by (has_number n) [] ≡ 0 = refl in omega (arith, none, some))
  one-used kept n (x ∷ xs) used some =
      elim (number x == n) as (λ b. (number x == n) ≡ b → IsTrue (is_among n kept)) [
        | true ↦ λ is. subst (λ m. IsTrue (is_among m kept)) (eqb-true (number x) n is) used.0
        | false ↦ λ is. one-used kept n xs used.1 (let none : one_if (has_number n x) ≡ 0 = ap one_if is in omega (arith, count-cons (has_number n) x xs, none, some))
      ] refl

  -- where each of their numbers is in use, all are
  pub each-used : (kept : List ℕ) (xs : List X) → ((n : ℕ) → 1 ≤ count_by (has_number n) xs → IsTrue (is_among n kept)) → AreUsed kept xs
  each-used kept [] each = tt
  each-used kept (x ∷ xs) each =
      let n = number x in
      let one : one_if (n == n) ≡ 1 = grind (arith, nat_tests) in (
        each n (omega (arith, count-cons (has_number n) x xs, one)),
        each-used kept xs (λ m some. each m (omega (arith, count-cons (has_number m) x xs, some))),
      )

  -- those that owners have
  module _ {Y : Type 0} (has : Y → List X) where
    abbrev pub count_with : ℕ → List Y → ℕ
    count_with n ys = sum_by (λ y. count_by (has_number n) (has y)) ys

    abbrev pub AllAreUsed : List ℕ → List Y → Type 0
    AllAreUsed kept ys = AllByRecursion (λ y. AreUsed kept (has y)) ys

    count_with-cons : (n : ℕ) (y : Y) (ys : List Y) → count_with n (y ∷ ys) ≡ count_by (has_number n) (has y) + count_with n ys
    count_with-cons n y ys = sum_by-cons (λ z. count_by (has_number n) (has z)) y ys

    pub owned-used : (kept : List ℕ) (n : ℕ) (ys : List Y) → AllAreUsed kept ys → 1 ≤ count_with n ys → IsTrue (is_among n kept)
    owned-used kept n [] used some = absurd (let none : count_with n [] ≡ 0 = refl in omega (arith, none, some))
    owned-used kept n (y ∷ ys) used some =
        elim (count_by (has_number n) (has y)) as (λ k. count_by (has_number n) (has y) ≡ k → IsTrue (is_among n kept)) [
          | zero ↦ λ is. owned-used kept n ys used.1 (omega (arith, count_with-cons n y ys, is, some))
          | (suc k) ↦ λ is. one-used kept n (has y) used.0 (omega (arith, is))
        ] refl

    pub all-used : (kept : List ℕ) (ys : List Y) → ((n : ℕ) → 1 ≤ count_with n ys → IsTrue (is_among n kept)) → AllAreUsed kept ys
    all-used kept [] each = tt
    all-used kept (y ∷ ys) each = (
      each-used kept (has y) (λ n some. each n (omega (arith, count_with-cons n y ys, some))),
      all-used kept ys (λ n some. each n (omega (arith, count_with-cons n y ys, some))),
    )

    -- more numbers are in use, and numbers go that none has
    pub used-more : (kept : List ℕ) (n : ℕ) (ys : List Y) → AllAreUsed kept ys → AllAreUsed (with_number n kept) ys
    used-more kept n ys used = all-used (with_number n kept) ys (λ m some. among-more m n kept (owned-used kept m ys used some))

    pub used-still : (ns kept : List ℕ) (ys : List Y) → ((n : ℕ) → 1 ≤ count_with n ys → count_of n ns ≡ 0) → AllAreUsed kept ys → AllAreUsed (kept_without ns kept) ys
    used-still ns kept ys none used = all-used (kept_without ns kept) ys (λ n some. kept-still n ns kept (owned-used kept n ys used some) (none n some))
