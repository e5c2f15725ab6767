-- Histories with one more entry, and accounts of callers.
use Rattle.std.proofs.Common.{◌≡◌, ◌≢◌, ℕ, ◌+◌, List, [], ◌∷◌, ◌++◌, cond, refl, sym, ap, ◌∙◌, subst, arith, eq-eqb, ne_eqb, append_assoc, append-nil}
use mathlib.Core.Logic.{dite}
use native.Mathlib.Decide.{ℕ_discrete}
use Rattle.turn_lock.specs.declared.view.Entry.{Entry}
use Rattle.turn_lock.specs.History.{IsStep, Legal, EachCall, end_of, entries_by, BeginsWith, times, AllKept}

module _ {C R T : Type 0} where
  pub legal_snoc : (turned : T → C → R → T → Type 0) (x : T) (log : List (Entry C R T)) (e : Entry C R T) → Legal turned x log → turned (end_of x log) e.call e.reply e.after → Legal turned x (log ++ e ∷ [])
  legal_snoc turned x [] e legal last = (last, tt)
  legal_snoc turned x (y ∷ ys) e legal last = (legal.0, legal_snoc turned y.after ys e legal.1 last)

  pub end_of-snoc : (x : T) (log : List (Entry C R T)) (e : Entry C R T) → end_of x (log ++ e ∷ []) ≡ e.after
  end_of-snoc x [] e = refl
  end_of-snoc x (y ∷ ys) e = end_of-snoc y.after ys e

  pub entries_by-own : (log : List (Entry C R T)) (e : Entry C R T) → entries_by e.by (log ++ e ∷ []) ≡ entries_by e.by log ++ e ∷ []
  entries_by-own [] e = ap (λ b. cond b (e ∷ []) []) (eq-eqb e.by e.by refl)
  entries_by-own (y ∷ ys) e =
      dite (ℕ_discrete y.by e.by)
      (λ is. let b = eq-eqb y.by e.by is in rw b (ap (λ l. y ∷ l) (entries_by-own ys e)))
      (λ no. let b = ne_eqb y.by e.by no in rw b (entries_by-own ys e))

  pub entries_by-other : (k : ℕ) (log : List (Entry C R T)) (e : Entry C R T) → e.by ≢ k → entries_by k (log ++ e ∷ []) ≡ entries_by k log
  entries_by-other k [] e apart = ap (λ b. cond b (e ∷ []) []) (ne_eqb e.by k apart)
  entries_by-other k (y ∷ ys) e apart =
      dite (ℕ_discrete y.by k)
      (λ is. let b = eq-eqb y.by k is in rw b (ap (λ l. y ∷ l) (entries_by-other k ys e apart)))
      (λ no. let b = ne_eqb y.by k no in rw b (entries_by-other k ys e apart))

  pub entries_by-append : (k : ℕ) (log more : List (Entry C R T)) → entries_by k (log ++ more) ≡ entries_by k log ++ entries_by k more
  entries_by-append k [] more = refl
  entries_by-append k (y ∷ ys) more =
      dite (ℕ_discrete y.by k)
      (λ is. let b = eq-eqb y.by k is in rw b (ap (λ l. y ∷ l) (entries_by-append k ys more)))
      (λ no. let b = ne_eqb y.by k no in rw b (entries_by-append k ys more))

  -- who has no entry in the history has none in a beginning of it
  pub none_before : (k : ℕ) (log seen : List (Entry C R T)) → BeginsWith log seen → entries_by k log ≡ [] → entries_by k seen ≡ []
  none_before k log seen begins none = front_empty (entries_by k seen) (entries_by k begins.0) (sym (entries_by-append k seen begins.0) ∙ sym (ap (entries_by k) begins.1) ∙ none)
    where
      front_empty : (xs ys : List (Entry C R T)) → xs ++ ys ≡ [] → xs ≡ []
      front_empty [] ys e = refl
      front_empty (x ∷ xs) ys e = absurd (cc)

  -- the object's fixed part is that of the opening
  pub fixed_end : {F : Type 0} (fixed : T → F) (may_ask : F → C → Type 0) (turned : T → C → R → T → Type 0) (stays : (before after : T) (call : C) (reply : R) → turned before call reply after → fixed after ≡ fixed before) (x : T) (log : List (Entry C R T)) → Legal (IsStep fixed may_ask turned) x log → fixed (end_of x log) ≡ fixed x
  fixed_end fixed may_ask turned stays x [] legal = refl
  fixed_end fixed may_ask turned stays x (e ∷ es) legal = fixed_end fixed may_ask turned stays e.after es legal.1 ∙ stays x e.after e.call e.reply legal.0.1

  -- each call may be asked of the opening's fixed part
  pub calls_asked : {F : Type 0} (fixed : T → F) (may_ask : F → C → Type 0) (turned : T → C → R → T → Type 0) (stays : (before after : T) (call : C) (reply : R) → turned before call reply after → fixed after ≡ fixed before) (x : T) (log : List (Entry C R T)) → Legal (IsStep fixed may_ask turned) x log → EachCall (may_ask (fixed x)) log
  calls_asked fixed may_ask turned stays x [] legal = tt
  calls_asked fixed may_ask turned stays x (e ∷ es) legal = (legal.0.0, subst (λ f. EachCall (may_ask f) es) (stays x e.after e.call e.reply legal.0.1) (calls_asked fixed may_ask turned stays e.after es legal.1))

  pub begins_itself : (log : List (Entry C R T)) → BeginsWith log log
  begins_itself log = ([], sym (append-nil log))

  pub begins_more : (log more seen : List (Entry C R T)) → BeginsWith log seen → BeginsWith (log ++ more) seen
  begins_more log more seen begins = (begins.0 ++ more, ap (λ l. l ++ more) begins.1 ∙ append_assoc seen begins.0 more)

  pub begins_then : (log middle seen : List (Entry C R T)) → BeginsWith log middle → BeginsWith middle seen → BeginsWith log seen
  begins_then log middle seen begins before = (before.0 ++ begins.0, begins.1 ∙ ap (λ l. l ++ begins.0) before.1 ∙ append_assoc seen before.0 begins.0)

  pub times-append : (k : ℕ) (ps qs : List (ℕ × List (Entry C R T))) → times k (ps ++ qs) ≡ times k ps + times k qs
  times-append k [] qs = omega arith
  times-append k (p ∷ ps) qs = let h = times-append k ps qs in omega arith

  pub times_here : (p : ℕ × List (Entry C R T)) (ps : List (ℕ × List (Entry C R T))) → times p.0 (p ∷ ps) ≡ 1 + times p.0 ps
  times_here p ps = ap (λ b. cond b 1 0 + times p.0 ps) (eq-eqb p.0 p.0 refl)

  pub times_else : (k : ℕ) (p : ℕ × List (Entry C R T)) (ps : List (ℕ × List (Entry C R T))) → p.0 ≢ k → times k (p ∷ ps) ≡ times k ps
  times_else k p ps apart = ap (λ b. cond b 1 0 + times k ps) (ne_eqb p.0 k apart) ∙ (omega arith)

  pub times_cut : (k : ℕ) (p q : ℕ × List (Entry C R T)) (ps : List (ℕ × List (Entry C R T))) → times k (p ∷ ps) + times k (q ∷ []) ≡ times k (p ∷ q ∷ ps)
  times_cut k p q ps = omega arith

  pub all_kept-append : (log : List (Entry C R T)) (ps qs : List (ℕ × List (Entry C R T))) → AllKept log ps → AllKept log qs → AllKept log (ps ++ qs)
  all_kept-append log [] qs here there = there
  all_kept-append log (p ∷ ps) qs here there = (here.0, all_kept-append log ps qs here.1 there)

  -- accounts that do not speak of the entry's caller stay as they are
  pub all_kept-other : (log : List (Entry C R T)) (e : Entry C R T) (ps : List (ℕ × List (Entry C R T))) → times e.by ps ≡ 0 → AllKept log ps → AllKept (log ++ e ∷ []) ps
  all_kept-other log e [] none kept = tt
  all_kept-other log e (p ∷ ps) none kept =
      dite (ℕ_discrete p.0 e.by)
      (λ is. let b = eq-eqb p.0 e.by is in let n : 1 + times e.by ps ≡ 0 = ap (λ c. cond c 1 0 + times e.by ps) (sym b) ∙ none in absurd (omega arith))
      (λ no. let n : times e.by ps ≡ 0 = sym (times_else e.by p ps no) ∙ none in (kept.0 ∙ sym (entries_by-other p.0 log e (λ is. no (sym is))), all_kept-other log e ps n kept.1))
