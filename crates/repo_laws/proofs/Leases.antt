-- Leases have numbers of their own, and garbage stands in rising order, whatever effects are made.
use native.Mathlib.Omega.{arith}
use Rattle.std.proofs.Common.{◌≡◌, ◌≤◌, ◌+◌, ℕ, Bool, true, false, not, cond, List, [], ◌∷◌, refl, ap, eqb-true}
use Rattle.std.specs.Prelude.{◌==◌, nat_lt, filter}
use Rattle.std.specs.List.{AllByRecursion}
use Rattle.std.proofs.lemmas.Bool.{ne_eqb, ltb-true, ltb-false}
use Rattle.repo_model.specs.State.{State, Lease, is_among}
use Rattle.repo_model.specs.Effect.{Effect, draws, drops, discards, expires, forgets, lends, returns, with_number, with_effect}
use Rattle.repo_laws.specs.Laws.{leases_of}
use Rattle.repo_laws.specs.Sound.{LentOnce, AreRising}
use Rattle.repo_laws.proofs.Counts.{one_if, count-push, count-filter}
use Rattle.repo_laws.proofs.HoldingLists.{all-filter}
use Rattle.repo_laws.proofs.Lists.{all-then}

-- no more leases of any number
fewer : (s t : State) → t.yard.next_lease ≡ s.yard.next_lease → ((n : ℕ) → leases_of t n ≤ leases_of s n) → LentOnce s → LentOnce t
fewer s t next less old = record {
  once = λ n. omega (arith, less n, old.once n);
  later = λ n above. omega (arith, less n, old.later n (omega (arith, next, above)));
  none = omega (arith, less 0, old.none);
  begun = omega (arith, next, old.begun);
}

-- a lease of the next number
lent-more : (s : State) (blob : ℕ) → LentOnce s → LentOnce (with_effect s (lends blob))
lent-more s blob old =
    let next = s.yard.next_lease in
    let new : Lease = record { number = next; blob = blob } in
    let count : (n : ℕ) → leases_of (with_effect s (lends blob)) n ≡ leases_of s n + one_if (next == n) = λ n. count-push (λ (l : Lease). l.number == n) s.yard.leases new in
    record {
      once = λ n. elim (next == n) as (λ b. (next == n) ≡ b → leases_of (with_effect s (lends blob)) n ≤ 1) [
        | true ↦ λ is.
            let same : next ≡ n = eq-of n is in
            let one : one_if (next == n) ≡ 1 = ap one_if is in
            omega (arith, count n, one, old.later n (omega (arith, same)))
        | false ↦ λ is. let zero : one_if (next == n) ≡ 0 = ap one_if is in omega (arith, count n, zero, old.once n)
      ] refl;
      later = λ n above.
          let other : (next == n) ≡ false = ne_eqb next n (λ same. omega (arith, same, above)) in
          let zero : one_if (next == n) ≡ 0 = ap one_if other in
          omega (arith, count n, zero, old.later n (omega (arith, above)));
      none =
          let other : (next == 0) ≡ false = ne_eqb next 0 (λ same. omega (arith, same, old.begun)) in
          let zero : one_if (next == 0) ≡ 0 = ap one_if other in
          omega (arith, count 0, zero, old.none);
      begun = omega arith;
    } where
      eq-of : (n : ℕ) → (s.yard.next_lease == n) ≡ true → s.yard.next_lease ≡ n
      eq-of n is = eqb-true s.yard.next_lease n is

pub leases-kept : (s : State) (e : Effect) → LentOnce s → LentOnce (with_effect s e)
leases-kept s (lends blob) old = lent-more s blob old
leases-kept s (returns lease) old =
    fewer s (with_effect s (returns lease)) refl (λ n. count-filter (λ (l : Lease). l.number == n) (λ (l : Lease). not (l.number == lease)) s.yard.leases) old
leases-kept s draws old = record { once = old.once; later = old.later; none = old.none; begun = old.begun }
leases-kept s e old = record { once = old.once; later = old.later; none = old.none; begun = old.begun }

-- garbage
all-with_number : (P : ℕ → Type 0) (n : ℕ) (ms : List ℕ) → P n → AllByRecursion P ms → AllByRecursion P (with_number n ms)
all-with_number P n [] here all = (here, tt)
all-with_number P n (m ∷ ms) here all =
    elim (nat_lt m n) as (λ b. AllByRecursion P (cond b (m ∷ with_number n ms) (n ∷ m ∷ ms))) [
      | true ↦ (all.0, all-with_number P n ms here all.1)
      | false ↦ (here, all)
    ]

with_number-rising : (n : ℕ) (ms : List ℕ) → AreRising ms → AreRising (with_number n ms)
with_number-rising n [] rising = (tt, tt)
with_number-rising n (m ∷ ms) rising =
    elim (nat_lt m n) as (λ b. nat_lt m n ≡ b → AreRising (cond b (m ∷ with_number n ms) (n ∷ m ∷ ms))) [
      | true ↦ λ is. (all-with_number (λ k. m ≤ k) n ms (omega (arith, ltb-true m n is)) rising.0, with_number-rising n ms rising.1)
      | false ↦ λ is.
          let first : n ≤ m = omega (arith, ltb-false m n is) in
          ((first, all-then (λ k. m ≤ k) (λ k. n ≤ k) (λ k le. omega (arith, first, le)) ms rising.0), rising)
    ] refl

pub filter-rising : (q : ℕ → Bool) (ns : List ℕ) → AreRising ns → AreRising (filter q ns)
filter-rising q [] rising = tt
filter-rising q (n ∷ ns) rising =
    elim (q n) as (λ b. AreRising (cond b (n ∷ filter q ns) (filter q ns))) [ true ↦ (all-filter (λ m. n ≤ m) q ns rising.0, filter-rising q ns rising.1) | false ↦ filter-rising q ns rising.1 ]

pub condemned-rising : (s : State) (e : Effect) → AreRising s.yard.condemned → AreRising (with_effect s e).yard.condemned
condemned-rising s (drops n) rising = with_number-rising n s.yard.condemned rising
condemned-rising s (discards m path draft) rising = with_number-rising draft s.yard.condemned rising
condemned-rising s (expires repo path blob) rising = with_number-rising blob s.yard.condemned rising
condemned-rising s (forgets blobs) rising = filter-rising (λ n. not (is_among n blobs)) s.yard.condemned rising
condemned-rising s e rising = rising
