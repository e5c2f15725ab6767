-- No course leaves a draft open or a lease out, and none is told that its draft is not there, where it is asked alone.
use Rattle.std.proofs.Common.{◌≡◌, ◌≢◌, ℕ, suc, zero, ◌≤◌, ◌==◌, Bool, inl, inr, List, [], ◌∷◌, ◌++◌, Option, Some, None, Result, Ok, Err, arith, refl, subst, sym, ◌∙◌}
use Rattle.std.specs.List.{AllByRecursion}
use Rattle.repo_model.specs.History.{Entry, Legal, after, end as end_of}
use Rattle.repo_model.specs.Reply.{no_draft}
use Rattle.repo_model.specs.Settings.{Settings}
use Rattle.repo_model.specs.State.{Lease, State, Yard}
use Rattle.repo_routes.specs.Intent.{Judged}
use Rattle.repo_routes.specs.Judge.{judge}
use Rattle.repo_routes.specs.declared.judging.Refused.{Refused}
use Rattle.repo_course.specs.Course.{Close, Course, asks, does, says, stops}
use Rattle.repo_course.specs.declared.outcomes.End.{End}
use Rattle.repo_course.specs.Serving.{Follows, Opens, served, Outside, ServesStream, RequestTurn}
use Rattle.course_laws.specs.Duties.{HoldsNothing, Keeps, MayAsk, Stand, duty_of, left_by, stand_after, stand_done}
use Rattle.repo_course.specs.declared.mode.ResponseMode.{ResponseMode}
use Rattle.course_laws.specs.LeftBehind.{IsDrawn, LeavesNothing, NumbersAreBelow}
use Rattle.course_laws.proofs.Kept.{duty_at, opens-keeps}
use Rattle.course_laws.proofs.Passes.{action-asks, entries-hold}
use Rattle.course_laws.proofs.PassesPlayed.{entries-find}
use Rattle.course_laws.proofs.Yards.{Holding, OwnDraft, OwnLease, step}
use Rattle.course_laws.proofs.Alls.{all-joined}

stays : (y : Yard) → LeavesNothing y y
stays y = record { drafts = refl; leases = refl; next_draft = omega arith; next_lease = omega arith }

both_left : (a b c : Yard) → LeavesNothing a b → LeavesNothing b c → LeavesNothing a c
both_left a b c first second = record {
  drafts = second.drafts ∙ first.drafts;
  leases = second.leases ∙ first.leases;
  next_draft = let here = first.next_draft in let there = second.next_draft in omega arith;
  next_lease = let here = first.next_lease in let there = second.next_lease in omega arith;
}

-- numbers below one are below a greater one
rises : {X : Type 0} (number : X → ℕ) (n m : ℕ) (xs : List X) → n ≤ m → NumbersAreBelow number n xs → NumbersAreBelow number m xs
rises number n m [] up below = tt
rises number n m (x ∷ xs) up below = (let here = below.0 in omega arith, rises number n m xs up below.1)

still_drawn : (old new : Yard) → LeavesNothing old new → IsDrawn old → IsDrawn new
still_drawn old new left drawn = record {
  drafts = subst (λ (ns : List ℕ). NumbersAreBelow (λ (n : ℕ). n) new.next_draft ns) (sym left.drafts)
      (rises (λ (n : ℕ). n) old.next_draft new.next_draft old.drafts left.next_draft drawn.drafts);
  leases = subst (λ (ls : List Lease). NumbersAreBelow (λ (l : Lease). l.number) new.next_lease ls) (sym left.leases)
      (rises (λ (l : Lease). l.number) old.next_lease new.next_lease old.leases left.next_lease drawn.leases);
}

-- before the first command nothing is held
nothing-held : (y : Yard) → Holding y None None y
nothing-held y = record { drafts = λ drawn. refl; leases = λ drawn. refl; next_draft = omega arith; next_lease = omega arith }

-- what is left after at the end of entries of which each finds its draft
pub record Leaves (settings : Settings) (before : Yard) (entries : List Entry) (st : State) : Type 0 where
  pub nothing : IsDrawn before → LeavesNothing before (end_of settings st entries).yard
  pub found : AllByRecursion (λ (e : Entry). e.reply ≢ no_draft) entries

-- a history in two parts
pub end_append : (settings : Settings) (x : State) (xs ys : List Entry) → end_of settings x (xs ++ ys) ≡ end_of settings (end_of settings x xs) ys
end_append settings x [] ys = refl
end_append settings x (e ∷ es) ys = end_append settings (after settings x e) es ys

pub legal_cut : (settings : Settings) (x : State) (xs ys : List Entry) → Legal settings x (xs ++ ys) → Legal settings x xs × Legal settings (end_of settings x xs) ys
legal_cut settings x [] ys legal = (tt, legal)
legal_cut settings x (e ∷ es) ys legal = let rest = legal_cut settings (after settings x e) es ys legal.1 in ((legal.0, rest.0), rest.1)

module _ (tells : Type 0) (settings : Settings) where
  module _ (before : Yard) (by_text : List ℕ → Option Close) (mode : ResponseMode) where
    ended : (s : Stand) (entries : List Entry) (st : State) → HoldsNothing s → Holding before s.draft s.lease st.yard → entries ≡ [] → Leaves settings before entries st
    ended s entries st none h is =
        let drafts : OwnDraft before None st.yard.drafts = subst (λ d. OwnDraft before d st.yard.drafts) none.0 h.drafts in
        let leases : OwnLease before None st.yard.leases = subst (λ l. OwnLease before l st.yard.leases) none.1 h.leases in
        subst (λ (es : List Entry). Leaves settings before es st) (sym is)
        (record {
          nothing = λ drawn. record { drafts = drafts drawn; leases = leases drawn; next_draft = h.next_draft; next_lease = h.next_lease };
          found = tt;
        })

    follows_leaves : (c : Course) (n : ℕ) (s : Stand) → Keeps by_text mode c n s → (entries : List Entry) (st : State) → Legal settings st entries
        → Holding before s.draft s.lease st.yard → (old new : Outside) (end : Option End) → Follows tells c entries old new end → Leaves settings before entries st
    follows_leaves (asks command next) zero s k [] st legal h old new end f = absurd f
    follows_leaves (asks command next) zero s k (e ∷ entries) st legal h old new end f = absurd k
    follows_leaves (asks command next) (suc n) s k [] st legal h old new end f = absurd f
    follows_leaves (asks command next) (suc n) s k (e ∷ entries) st legal h old new end f =
        let now = step before settings s st h e (subst (λ c. MayAsk c s) (sym f.0) k.0) legal.0 in
        let held = subst (λ c. Holding before (stand_after c e.reply s).draft (stand_after c e.reply s).lease (after settings st e).yard) f.0 now.0 in
        let rest = follows_leaves (next e.reply) n (stand_after command e.reply s) (k.1 e.reply) entries (after settings st e) legal.1 held old new end f.1 in
        record { nothing = rest.nothing; found = (now.1, rest.found) }
    follows_leaves (does io_action next) n s k entries st legal h old new end f =
        let cut = legal_cut settings st f.1 f.2 (subst (λ (es : List Entry). Legal settings st es) f.4 legal) in
        let asked = action-asks tells io_action f.0 f.1 old f.3 f.5 in
        let held = entries-hold before s.draft s.lease settings f.1 st asked h in
        let rest = follows_leaves (next f.0) (left_by io_action n) (stand_done by_text io_action f.0 s) (k.2 f.0) f.2 (end_of settings st f.1) cut.1 held f.3 new end f.6 in
        subst (λ (es : List Entry). Leaves settings before es st) (sym f.4)
        (record {
          nothing = λ drawn. subst (λ (x : State). LeavesNothing before x.yard) (sym (end_append settings st f.1 f.2)) (rest.nothing drawn);
          found = all-joined (λ (e : Entry). e.reply ≢ no_draft) f.1 f.2 (entries-find settings f.1 st cut.0 asked) rest.found;
        })
    follows_leaves (says said own) n s k entries st legal h old new end f = ended s entries st k.0 h f.0
    follows_leaves (stops next) n s k entries st legal h old new end f = ended s entries st k.0 h f.0

  turn_leaves : (last : Bool) (entries : List Entry) (st : State) → Legal settings st entries → (old new : Outside) (end : Option End)
      → RequestTurn settings tells last entries old new end → Leaves settings st.yard entries st
  turn_leaves last entries st legal old new end t =
      let duty = duty_at t.2 in
      follows_leaves st.yard duty.by_text duty.mode t.0 duty.most duty.stand (opens-keeps settings last old t.1 t.0 t.2) entries st legal
      (holds t.2) t.1 new end t.3
    where
      judged-holds : (judged : Result Judged Refused) → Holding st.yard (duty_of judged last).stand.draft (duty_of judged last).stand.lease st.yard
      judged-holds (Ok request) = nothing-held st.yard
      judged-holds (Err cause) = nothing-held st.yard

      holds : {c : Course} {mid : Outside} (o : Opens settings last old mid c) → Holding st.yard (duty_at o).stand.draft (duty_at o).stand.lease st.yard
      holds (served head rest begins uses is) = judged-holds (judge settings head)
      holds _ = nothing-held st.yard

  pub serves_leaves : (n : ℕ) (entries : List Entry) (st : State) → Legal settings st entries → (old new : Outside) (end : End)
      → ServesStream settings tells n entries old new end → Leaves settings st.yard entries st
  unfolding ServesStream
  serves_leaves zero entries st legal old new end t =
      subst (λ (es : List Entry). Leaves settings st.yard es st) (sym t.0) (record { nothing = λ drawn. stays st.yard; found = tt })
  serves_leaves (suc left) entries st legal old new end (inl turn) = turn_leaves (left == 0) entries st legal old new (Some end) turn
  serves_leaves (suc left) entries st legal old new end (inr t) =
      let all = subst (λ (es : List Entry). Legal settings st es) t.3 legal in
      let cut = legal_cut settings st t.0 t.1 all in
      let mid = end_of settings st t.0 in
      let first = turn_leaves (left == 0) t.0 st cut.0 old t.2 None t.4 in
      let rest = serves_leaves left t.1 mid cut.1 t.2 new end t.5 in
      subst (λ (es : List Entry). Leaves settings st.yard es st) (sym t.3)
      (record {
        nothing = λ drawn. let left_so = first.nothing drawn in
            subst (λ (x : State). LeavesNothing st.yard x.yard) (sym (end_append settings st t.0 t.1))
            (both_left st.yard mid.yard (end_of settings mid t.1).yard left_so (rest.nothing (still_drawn st.yard mid.yard left_so drawn)));
        found = all-joined (λ (e : Entry). e.reply ≢ no_draft) t.0 t.1 first.found rest.found;
      })
