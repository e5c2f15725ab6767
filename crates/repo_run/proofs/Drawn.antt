-- The numbers that stand in a sound state were drawn.
use native.Mathlib.Omega.{arith}
use Rattle.std.proofs.Common.{◌≡◌, ℕ, ◌+◌, ◌<◌, ◌≤◌, List, [], ◌∷◌, inl, inr, refl, ap}
use Rattle.std.specs.Prelude.{◌==◌, count_by}
use Rattle.std.proofs.lemmas.Bool.{eq-eqb, cases_lt}
use Rattle.repo_model.specs.Settings.{Settings}
use Rattle.repo_model.specs.State.{State, Lease}
use Rattle.repo_laws.specs.Laws.{cached_with, count_of, rows_with, staged_with}
use Rattle.repo_laws.specs.Sound.{IsSound}
use Rattle.repo_laws.proofs.Counts.{one_if, count-cons}
use Rattle.course_laws.specs.LeftBehind.{NumbersAreBelow, IsDrawn}

-- where no number from there on is counted, each is below
numbers-below : {X : Type 0} (number : X → ℕ) (next : ℕ) (xs : List X) → ((n : ℕ) → next ≤ n → count_by (λ x. number x == n) xs ≡ 0) → NumbersAreBelow number next xs
numbers-below number next [] none = tt
numbers-below number next (x ∷ xs) none = (first, numbers-below number next xs rest) where
  first : number x < next
  first =
      elim (cases_lt (number x) next) as (λ _. number x < next) [
        | inl below ↦ below
        | inr far ↦
            let zero : count_by (λ y. number y == number x) (x ∷ xs) ≡ 0 = none (number x) far in
            let one : one_if (number x == number x) ≡ 1 = ap one_if (eq-eqb (number x) (number x) refl) in
            let more : count_by (λ y. number y == number x) (x ∷ xs) ≡ one_if (number x == number x) + count_by (λ y. number y == number x) xs = count-cons (λ y. number y == number x) x xs in
            omega (arith, zero, one, more)
      ]

  rest : (n : ℕ) → next ≤ n → count_by (λ y. number y == n) xs ≡ 0
  rest n far = let more = count-cons (λ y. number y == n) x xs in omega (arith, none n far, more)

pub sound-drawn : (settings : Settings) (s : State) → IsSound settings s → IsDrawn s.yard
sound-drawn settings s sound = record {
  drafts = numbers-below (λ n. n) s.yard.next_draft s.yard.drafts drafts;
  leases = numbers-below (λ (l : Lease). l.number) s.yard.next_lease s.yard.leases (λ n far. sound.leases.later n far);
} where
  drafts : (n : ℕ) → s.yard.next_draft ≤ n → count_by (λ m. m == n) s.yard.drafts ≡ 0
  drafts n far =
      let all : count_of n s.yard.drafts + rows_with n s.hosted + cached_with n s.proxies + staged_with n s.sessions + count_of n s.yard.condemned ≡ 0 = sound.places.later n far in
      omega (arith, all)
