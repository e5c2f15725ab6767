-- Members that were tried, each once and each below their number, are no more than there are.
use native.Mathlib.Omega.{arith}
use Rattle.std.proofs.Common.{◌≡◌, ℕ, ◌++◌, ◌+◌, ◌<◌, ◌≤◌, true, false, not, cond, zero, suc, List, [], ◌∷◌, length, refl, sym, ◌∙◌, ap, subst, eqb-true}
use Rattle.std.specs.Prelude.{◌==◌, filter}
use Rattle.std.specs.List.{AllByRecursion}
use Rattle.std.proofs.lemmas.Bool.{false≢true, eq-eqb, or_parts, or_from}
use Rattle.repo_model.specs.State.{is_among}

-- each of them once
abbrev pub AreOnce : List ℕ → Type 0
AreOnce [] = Unit {0}
AreOnce (n ∷ ns) = (is_among n ns ≡ false) × AreOnce ns

abbrev pub AreBelow : ℕ → List ℕ → Type 0
AreBelow most ns = AllByRecursion (λ n. n < most) ns

abbrev others : ℕ → List ℕ → List ℕ
others k ns = filter (λ n. not (n == k)) ns

among-others : (m k : ℕ) (ns : List ℕ) → is_among m ns ≡ false → is_among m (others k ns) ≡ false
among-others m k [] none = refl
among-others m k (n ∷ ns) none =
    let (here, later) = or_parts (n == m) (is_among m ns) none in
    elim (n == k) as (λ b. is_among m (cond (not b) (n ∷ others k ns) (others k ns)) ≡ false) [
      | true ↦ among-others m k ns later
      | false ↦ or_from (n == m) (is_among m (others k ns)) here (among-others m k ns later)
    ]

once-others : (k : ℕ) (ns : List ℕ) → AreOnce ns → AreOnce (others k ns)
once-others k [] once = tt
once-others k (n ∷ ns) once =
    elim (n == k) as (λ b. AreOnce (cond (not b) (n ∷ others k ns) (others k ns))) [
      | true ↦ once-others k ns once.1
      | false ↦ (among-others n k ns once.0, once-others k ns once.1)
    ]

below-others : (k : ℕ) (ns : List ℕ) → AreBelow (suc k) ns → AreBelow k (others k ns)
below-others k [] all = tt
below-others k (n ∷ ns) all =
    elim (n == k) as (λ b. (n == k) ≡ b → AreBelow k (cond (not b) (n ∷ others k ns) (others k ns))) [
      | true ↦ λ _. below-others k ns all.1
      | false ↦ λ other. (less n k all.0 (λ same. false≢true (sym other ∙ eq-eqb n k same)), below-others k ns all.1)
    ] refl where
      less : (n k : ℕ) → n < suc k → (n ≡ k → ⊥) → n < k
      less n k up apart = elim (n == k) as (λ b. (n == k) ≡ b → n < k) [
        | true ↦ λ is. absurd (apart (eqb-true n k is))
        | false ↦ λ is. strict n k up apart
      ] refl where
        strict : (n k : ℕ) → n < suc k → (n ≡ k → ⊥) → n < k
        strict zero zero up apart = absurd (apart refl)
        strict zero (suc k) up apart = omega arith
        strict (suc n) zero up apart = absurd (omega (arith, up))
        strict (suc n) (suc k) up apart = let so = strict n k (omega (arith, up)) (λ same. apart (ap suc same)) in omega (arith, so)

-- where a number is not among them, all are others
all-others : (k : ℕ) (ns : List ℕ) → is_among k ns ≡ false → length (others k ns) ≡ length ns
all-others k [] none = refl
all-others k (n ∷ ns) none =
    let (here, later) = or_parts (n == k) (is_among k ns) none in
    elim (n == k) as (λ b. (n == k) ≡ b → length (cond (not b) (n ∷ others k ns) (others k ns)) ≡ suc (length ns)) [
      | true ↦ λ is. absurd (false≢true (sym here ∙ is))
      | false ↦ λ _. ap suc (all-others k ns later)
    ] refl

one-less : (k : ℕ) (ns : List ℕ) → AreOnce ns → length ns ≤ length (others k ns) + 1
one-less k [] once = omega arith
one-less k (n ∷ ns) once =
    elim (n == k) as (λ b. (n == k) ≡ b → suc (length ns) ≤ length (cond (not b) (n ∷ others k ns) (others k ns)) + 1) [
      | true ↦ λ is.
          let gone : is_among k ns ≡ false = subst (λ (x : ℕ). is_among x ns ≡ false) (eqb-true n k is) once.0 in
          omega (arith, all-others k ns gone)
      | false ↦ λ _. omega (arith, one-less k ns once.1)
    ] refl

bounded : (most : ℕ) (ns : List ℕ) → AreOnce ns → AreBelow most ns → length ns ≤ most
bounded zero [] once all = omega arith
bounded zero (n ∷ ns) once all = absurd (omega (arith, all.0))
bounded (suc most) ns once all = omega (arith, one-less most ns once, bounded most (others most ns) (once-others most ns once) (below-others most ns all))

-- where one more is there that was not tried, fewer were
pub one-is-left : (most m : ℕ) (tried : List ℕ) → AreOnce tried → AreBelow most tried → is_among m tried ≡ false → m < most → length tried < most
one-is-left most m tried once all fresh below = let more = bounded most (m ∷ tried) (fresh, once) (below, all) in omega (arith, more)

-- one more that is not among them
apart-last : (m n : ℕ) (ns : List ℕ) → (n == m) ≡ false → is_among n ns ≡ false → is_among n (ns ++ m ∷ []) ≡ false
apart-last m n [] other none = or_from (m == n) false (flipped m n other) refl
  where
    flipped : (m n : ℕ) → (n == m) ≡ false → (m == n) ≡ false
    flipped m n other =
        elim (m == n) as (λ b. (m == n) ≡ b → b ≡ false) [
          | true ↦ λ is. absurd (false≢true (sym other ∙ eq-eqb n m (sym (eqb-true m n is))))
          | false ↦ λ _. refl
        ] refl
apart-last m n (k ∷ ns) other none =
    let (here, later) = or_parts (k == n) (is_among n ns) none in or_from (k == n) (is_among n (ns ++ m ∷ [])) here (apart-last m n ns other later)

pub once-last : (m : ℕ) (ns : List ℕ) → AreOnce ns → is_among m ns ≡ false → AreOnce (ns ++ m ∷ [])
once-last m [] once fresh = (refl, tt)
once-last m (n ∷ ns) once fresh = let (here, later) = or_parts (n == m) (is_among m ns) fresh in (apart-last m n ns here once.0, once-last m ns once.1 later)

pub below-last : (most m : ℕ) (ns : List ℕ) → AreBelow most ns → m < most → AreBelow most (ns ++ m ∷ [])
below-last most m [] all below = (below, tt)
below-last most m (n ∷ ns) all below = (all.0, below-last most m ns all.1 below)
