-- The rule at the beginning, and what it says at the end.
use Rattle.std.proofs.Common.{◌≡◌, ◌⊎◌, ℕ, zero, suc, ◌+◌, ◌*◌, ◌^◌, ◌<◌, ◌≤◌, List, [], ◌∷◌, length, Some, refl, sym, ap, ◌∙◌, subst, inl, inr, ⊎_elim, arith}
use mathlib.Core.Option.{some, some-injective, some-ne-none}
use mathlib.Core.Logic.{dite}
use native.Mathlib.Decide.{ℕ_discrete}
use lib.ListN.{get_elem?}
use Rattle.atomic_table.specs.Table.{opening as at_first, Final, Seen}
use Rattle.turn_lock.specs.declared.view.Entry.{Entry}
use Rattle.turn_lock.specs.declared.view.View.{View}
use Rattle.turn_lock.specs.declared.view.Slot.{Slot}
use Rattle.turn_lock.specs.declared.view.Slot.TheVariants.{Home}
use Rattle.turn_lock.specs.History.{Legal, end_of, entries_by, BeginsWith, AllKept, AllBelow, times}
use Rattle.turn_lock.specs.Rule.{accounts, claims, turn_of, parts_of, total, Each, place, Sees, Lawful}
use Rattle.turn_lock.specs.Views.{first_view}
use Rattle.turn_lock.proofs.Totals.{total_alone}
use Rattle.turn_lock.proofs.Histories.{times_else}

module _ {C R T : Type 0} (turned : T → C → R → T → Type 0) (x : T) where
  alone : (P : View C R T → Type 0) → P (first_view x) → Each P (first_view x ∷ [])
  alone P here zero v at = subst P (some-injective _ _ at) here
  alone P here (suc by) v at = absurd (some-ne-none v (sym at))

  pub begins : Lawful {C = C} {R = R} turned x (at_first (0 ∷ []) (Home x ∷ []) (first_view x))
  begins = (
    [],
    record {
      word = record {
        legal = tt;
        one = omega arith;
        word = refl;
        home = refl;
        seen = alone (Sees []) (([], refl), ([], refl), λ _. refl);
      };
      callers = record {
        given = 1;
        counted = λ k. dite (ℕ_discrete 0 k)
            (λ is. inl ((omega arith), let h : times {C = C} {R = R} {T = T} k ((0, []) ∷ []) ≡ 1 = subst (λ (n : ℕ). times {C = C} {R = R} {T = T} n ((0, []) ∷ []) ≡ 1) is refl in omega arith))
            (λ no. inr ((omega arith), (let h : times {C = C} {R = R} {T = T} k ((0, []) ∷ []) ≡ 0 = times_else {C = C} {R = R} {T = T} k (0, []) [] no in omega arith), refl));
        kept = alone (λ v. AllKept [] (accounts v)) (refl, tt);
        known = alone (λ v. (v.given ≤ 1) × AllBelow v.given (accounts v))
            ((omega arith), λ k above. let h : times {C = C} {R = R} {T = T} k ((0, []) ∷ []) ≡ 0 = times_else {C = C} {R = R} {T = T} k (0, []) [] (λ is. omega arith) in h);
      };
      parts = record {
        whole = refl;
        alive = alone (λ v. 0 < v.parts → v.opening ≡ Some x) (λ _. refl);
        spent = alone (λ v. v.parts ≡ 0 → (v.turn ≡ 0) × (accounts v ≡ [])) (λ none. absurd (omega arith));
      };
    },
  )

module _ {C R T : Type 0} (turned : T → C → R → T → Type 0) (opening : T) (id : ℕ) (v : View C R T) where
  -- Where one view has all parts, what its table holds at the end
  pub record Ended (words : List ℕ) (slots : List (Slot C R T)) : Type 0 where
    pub log : List (Entry C R T)
    pub legal : Legal turned opening log
    pub begins : BeginsWith log v.seen
    pub word : words ≡ (2 * length log) ∷ []
    pub home : get_elem? slots 0 ≡ some (Home (end_of opening log))
    pub own : AllKept log (accounts v)
    pub others : (k : ℕ) → (times k (accounts v) ≡ 1) ⊎ ((times k (accounts v) ≡ 0) × (entries_by k log ≡ []))

  pub ends : (words : List ℕ) (slots : List (Slot C R T)) → v.parts ≡ 2 ^ 64 → v.turn ≡ 0 → Final (Seen (Lawful turned opening) id v) words slots → Ended words slots
  ends words slots all idle (s, holds, same, long, values) =
      let log = holds.0.0 in
      let k = holds.0.1 in
      let at = holds.1 in
      let whole : total parts_of s.views ≡ v.parts = k.parts.whole ∙ sym all in
      let nobody : total turn_of s.views ≡ 0 = total_alone turn_of s.views id v at whole (λ by u there none. (k.parts.spent by u there none).0) ∙ idle in
      let counts : (n : ℕ) → total (claims n) s.views ≡ claims n v = (λ n. total_alone (claims n) s.views id v at whole (λ by u there none. ap (times n) (k.parts.spent by u there none).1)) in record {
        log = log;
        legal = k.word.legal;
        begins = (k.word.seen id v at).0;
        word = sym same ∙ k.word.word ∙ ap (λ n. (2 * length log + n) ∷ []) nobody ∙ ap (λ n. n ∷ []) (omega arith);
        home = values 0 (Home (end_of opening log)) (ap (λ hs. get_elem? hs 0) (k.word.home ∙ ap (λ n. place n (end_of opening log) ∷ []) nobody));
        own = k.callers.kept id v at;
        others = λ n. rw (← counts n) (⊎_elim
            (λ (one : (n < k.callers.given) × (total (claims n) s.views ≡ 1)). inl one.1)
            (λ (none : (k.callers.given ≤ n) × (total (claims n) s.views ≡ 0) × (entries_by n log ≡ [])). inr (none.1, none.2))
            (k.callers.counted n));
      }
