-- A history in which each entry is of somebody who has seen all of his is what was seen of it.
use Rattle.std.proofs.Common.{◌≡◌, ◌⊎◌, inl, inr, ℕ, List, [], ◌∷◌, ◌++◌, cond, refl, sym, ap, ◌∙◌, subst, arith, eq-eqb, append-nil}
use mathlib.Core.Logic.{dite}
use native.Mathlib.Decide.{ℕ_discrete}
use Rattle.turn_lock.specs.declared.view.Entry.{Entry}
use Rattle.turn_lock.specs.History.{entries_by, BeginsWith, times, AllKept}
use Rattle.turn_lock.proofs.Histories.{entries_by-append, times_else}

module _ {C R T : Type 0} where
  same_account : (k : ℕ) (log seen : List (Entry C R T)) (ps : List (ℕ × List (Entry C R T))) → AllKept log ps → AllKept seen ps → times k ps ≡ 1 → entries_by k log ≡ entries_by k seen
  same_account k log seen [] a b one = absurd (omega arith)
  same_account k log seen (p ∷ ps) a b one =
      dite (ℕ_discrete p.0 k)
      (λ is. subst (λ n. entries_by n log ≡ entries_by n seen) is (sym a.0 ∙ b.0))
      (λ no. same_account k log seen ps a.1 b.1 (sym (times_else k p ps no) ∙ one))

  same_front : (xs ys : List (Entry C R T)) → xs ++ ys ≡ xs → ys ≡ []
  same_front [] ys e = e
  same_front (x ∷ xs) ys e = same_front xs ys (cc)

  both_empty : (xs ys : List (Entry C R T)) → xs ++ ys ≡ [] → ys ≡ []
  both_empty [] ys e = e
  both_empty (x ∷ xs) ys e = absurd (cc)

  nobody : (rest : List (Entry C R T)) → ((k : ℕ) → entries_by k rest ≡ []) → rest ≡ []
  nobody [] none = refl
  nobody (e ∷ es) none =
      let own = ap (λ b. cond b (e ∷ entries_by e.by es) (entries_by e.by es)) (eq-eqb e.by e.by refl) in
      let h : e ∷ entries_by e.by es ≡ [] = sym own ∙ none e.by in absurd (cc)

  pub whole : (log seen : List (Entry C R T)) (ps : List (ℕ × List (Entry C R T))) → BeginsWith log seen → AllKept log ps → AllKept seen ps
      → ((k : ℕ) → (times k ps ≡ 1) ⊎ ((times k ps ≡ 0) × (entries_by k log ≡ []))) → log ≡ seen
  whole log seen ps (rest, goes_on) all some others =
      let cut : (k : ℕ) → entries_by k log ≡ entries_by k seen ++ entries_by k rest = (λ k. ap (entries_by k) goes_on ∙ entries_by-append k seen rest) in
      let none : (k : ℕ) → entries_by k rest ≡ [] = (λ k. elim (others k) [
        | inl once ↦ same_front (entries_by k seen) (entries_by k rest) (sym (cut k) ∙ same_account k log seen ps all some once)
        | inr never ↦ both_empty (entries_by k seen) (entries_by k rest) (sym (cut k) ∙ never.1)
      ]) in goes_on ∙ ap (λ r. seen ++ r) (nobody rest none) ∙ append-nil seen
