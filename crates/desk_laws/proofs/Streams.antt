-- A stream gives back what it was given, among its own entries.
use Rattle.std.proofs.Common.{◌≡◌, ◌⊎◌, inl, inr, ℕ, zero, suc, ◌==◌, Bool, true, false, not, ◌&&◌, List, [], ◌∷◌, Option, Some, None, refl, sym, subst, ap, ◌∙◌, IsTrue}
use Rattle.std.specs.Prelude.{if◌then◌else◌}
use Rattle.std.specs.List.{AllByRecursion}
use Rattle.std.proofs.lemmas.Bool.{false≢true, eq-eqb}
use Rattle.repo_model.specs.Command.{Command, look, done, may_put, put, stage, drop_draft, land}
use Rattle.repo_model.specs.Data.{Blob}
use Rattle.repo_model.specs.History.{Entry}
use Rattle.repo_model.specs.Reply.{Reply, created, same, draft, dropped, file, fetches, landed, can_get}
use Rattle.repo_model.specs.Settings.{Settings}
use Rattle.repo_laws.specs.Laws.{AnyByRecursion}
use Rattle.repo_laws.specs.Replies.{GivesDraft, is_under, leaves_drafts, spends, uses_draft}
use Rattle.repo_laws.proofs.Drafts.{draft-dropped}
use Rattle.repo_course.specs.Course.{Close, Course, asks, does, says, stops}
use Rattle.repo_course.specs.declared.mode.ResponseMode.{ResponseMode}
use Rattle.repo_course.specs.declared.outcomes.End.{End}
use Rattle.repo_course.specs.Serving.{Follows, Outside, ServesStream, RequestTurn}
use Rattle.course_laws.specs.Duties.{HoldsNothing, Keeps, MayAsk, Stand, draft_after, lease_after, left_by, spends_draft, stand_after, stand_done}
use Rattle.course_laws.proofs.Kept.{duty_at, opens-keeps}
use Rattle.course_laws.proofs.Passes.{action-asks}
use Rattle.desk_laws.specs.Back.{GiveAllBack}
use Rattle.desk_laws.proofs.Fitting.{FitsOne, all-cut, any-right, both-back, draft-by, file-by, none-back, pass-back}

-- a reply by which the draft is used up or given up is none that leaves it
uses-up : (reply : Reply) → spends_draft reply ≡ true → leaves_drafts reply ≡ false
uses-up created is = refl
uses-up _ is = (cc)

-- the draft that is held still is, or the entry spends it
put-or-spent : (m n : ℕ) (held : Option ℕ) (reply : Reply) (b : Bool) → spends_draft reply ≡ b → held ≡ Some m → held ≡ Some n
    → ((if b then None else held) ≡ Some n) ⊎ (((m == n) && not (leaves_drafts reply)) ≡ true)
put-or-spent m n held reply false is own other = inl other
put-or-spent m n held reply true is own other =
    let same : m ≡ n = cc in
    inr (subst (λ k. ((m == k) && not (leaves_drafts reply)) ≡ true) same (rw (eq-eqb m m refl, uses-up reply is) refl))

draft-or-spent : (command : Command) (reply : Reply) (s : Stand) (n : ℕ) → MayAsk command s → ((m : ℕ) → command ≡ drop_draft m → reply ≡ dropped) → s.draft ≡ Some n
    → (draft_after command reply s.draft ≡ Some n) ⊎ ((uses_draft n command && not (leaves_drafts reply)) ≡ true)
draft-or-spent (may_put place path) reply s n may drops is = absurd (let no : s.draft ≡ None = may.1 in cc)
draft-or-spent (put repo path m blob) reply s n may drops is = put-or-spent m n s.draft reply (spends_draft reply) refl may.1 is
draft-or-spent (stage at path m blob) reply s n may drops is = put-or-spent m n s.draft reply (spends_draft reply) refl may.1 is
draft-or-spent (drop_draft m) reply s n may drops is =
    let same : m ≡ n = cc in
    inr (subst (λ (r : Reply). ((m == n) && not (leaves_drafts r)) ≡ true) (sym (drops m refl)) (subst (λ k. ((m == k) && true) ≡ true) same (rw (eq-eqb m m refl) refl)))
draft-or-spent (look repo path tried) reply s n may drops is = absurd (let no : s.draft ≡ None = may.2 in cc)
draft-or-spent (land plan outcome) landed s n may drops is =
    inr (subst (λ (o : Option ℕ). (is_under n o && true) ≡ true) (sym is ∙ may.2) (rw (eq-eqb n n refl) refl))
draft-or-spent command reply s n may drops is = inl is

-- so is the lease, or it is given back
lease-or-returned : (command : Command) (reply : Reply) (s : Stand) (n : ℕ) → MayAsk command s → s.lease ≡ Some n
    → (lease_after command reply s.lease ≡ Some n) ⊎ (command ≡ done n)
lease-or-returned (look repo path tried) reply s n may is = absurd (let no : s.lease ≡ None = may.1 in cc)
lease-or-returned (done m) reply s n may is = let same : m ≡ n = cc in inr (ap done same)
lease-or-returned command reply s n may is = inl is

-- what is given is held
draft-held : (command : Command) (reply : Reply) (n : ℕ) (held : Option ℕ) → IsTrue (can_get command reply) → GivesDraft n reply
    → draft_after command reply held ≡ Some n
draft-held (may_put place path) (draft m) n held can gives = ap Some gives
draft-held (look repo path tried) (fetches plan) n held can gives = gives
draft-held command (draft m) n held can gives = absurd (false≢true can)
draft-held command (fetches plan) n held can gives = absurd (false≢true can)
draft-held command reply n held can gives = absurd gives

lease-held : (command : Command) (n : ℕ) (blob : Blob) (held : Option ℕ) → IsTrue (can_get command (file n blob)) → lease_after command (file n blob) held ≡ Some n
lease-held (look repo path tried) n blob held can = refl
lease-held command n blob held can = absurd (false≢true can)

-- what is held and what is given is given back among these entries
record Owing (s : Stand) (entries : List Entry) : Type 0 where
  draft : (n : ℕ) → s.draft ≡ Some n → AnyByRecursion (λ (x : Entry). spends n x ≡ true) entries
  lease : (n : ℕ) → s.lease ≡ Some n → AnyByRecursion (λ (x : Entry). x.command ≡ done n) entries
  back : GiveAllBack entries

nothing-owed : (s : Stand) (entries : List Entry) → HoldsNothing s → entries ≡ [] → Owing s entries
nothing-owed s entries none is =
    subst (Owing s) (sym is)
    (record {
      draft = λ n held. absurd (let no : s.draft ≡ None = none.0 in cc);
      lease = λ n held. absurd (let no : s.lease ≡ None = none.1 in cc);
      back = none-back;
    })

module _ (settings : Settings) where
  owing-more : (s : Stand) (e : Entry) (es : List Entry) → FitsOne settings e → MayAsk e.command s → Owing (stand_after e.command e.reply s) es → Owing s (e ∷ es)
  owing-more s e es fits may rest = record {
    draft = λ n is.
        elim (draft-or-spent e.command e.reply s n may (λ m command. draft-dropped settings fits.0 e m fits.1 command) is) [
          | inl held ↦ inr (rest.draft n held)
          | inr spent ↦ inl spent
        ];
    lease = λ n is.
        elim (lease-or-returned e.command e.reply s n may is) [
          | inl held ↦ inr (rest.lease n held)
          | inr returned ↦ inl returned
        ];
    back = record {
      drafts = (
        λ n gives. rest.draft n (draft-held e.command e.reply n s.draft (draft-by settings e n fits gives) gives),
        rest.back.drafts,
      );
      leases = (
        λ n blob is. rest.lease n (subst (λ (r : Reply). lease_after e.command r s.lease ≡ Some n) (sym is) (lease-held e.command n blob s.lease (file-by settings e n blob fits is))),
        rest.back.leases,
      );
    };
  }

  module _ (tells : Type 0) (by_text : List ℕ → Option Close) (mode : ResponseMode) where
    follows-owing : (c : Course) (n : ℕ) (s : Stand) → Keeps by_text mode c n s → (entries : List Entry) → AllByRecursion (FitsOne settings) entries
        → (old new : Outside) (end : Option End) → Follows tells c entries old new end → Owing s entries
    follows-owing (asks command next) zero s k [] fit old new end f = absurd f
    follows-owing (asks command next) zero s k (e ∷ es) fit old new end f = absurd k
    follows-owing (asks command next) (suc n) s k [] fit old new end f = absurd f
    follows-owing (asks command next) (suc n) s k (e ∷ es) fit old new end f =
        let rest = follows-owing (next e.reply) n (stand_after command e.reply s) (k.1 e.reply) es fit.1 old new end f.1 in
        owing-more s e es fit.0 (subst (λ c. MayAsk c s) (sym f.0) k.0) (subst (λ c. Owing (stand_after c e.reply s) es) (sym f.0) rest)
    follows-owing (does io_action next) n s k entries fit old new end f =
        let cut = all-cut (FitsOne settings) f.1 f.2 (subst (AllByRecursion (FitsOne settings)) f.4 fit) in
        let rest = follows-owing (next f.0) (left_by io_action n) (stand_done by_text io_action f.0 s) (k.2 f.0) f.2 cut.1 f.3 new end f.6 in
        subst (Owing s) (sym f.4)
        (record {
          draft = λ m is. any-right _ f.1 f.2 (rest.draft m is);
          lease = λ m is. any-right _ f.1 f.2 (rest.lease m is);
          back = both-back f.1 f.2 (pass-back settings f.1 cut.0 (action-asks tells io_action f.0 f.1 old f.3 f.5)) rest.back;
        })
    follows-owing (says said own) n s k entries fit old new end f = nothing-owed s entries k.0 f.0
    follows-owing (stops stop) n s k entries fit old new end f = nothing-owed s entries k.0 f.0

  module _ (own : Settings) (tells : Type 0) where
    turn-back : (last : Bool) (entries : List Entry) (old new : Outside) (end : Option End) → AllByRecursion (FitsOne settings) entries
        → RequestTurn own tells last entries old new end → GiveAllBack entries
    turn-back last entries old new end fit t =
        let duty = duty_at t.2 in
        (follows-owing tells duty.by_text duty.mode t.0 duty.most duty.stand (opens-keeps own last old t.1 t.0 t.2) entries fit t.1 new end t.3).back

    pub serves-back : (n : ℕ) (entries : List Entry) (old new : Outside) (ending : End) → AllByRecursion (FitsOne settings) entries
        → ServesStream own tells n entries old new ending → GiveAllBack entries
    unfolding ServesStream
    serves-back zero entries old new ending fit t = subst GiveAllBack (sym t.0) none-back
    serves-back (suc left) entries old new ending fit (inl turn) = turn-back (left == 0) entries old new (Some ending) fit turn
    serves-back (suc left) entries old new ending fit (inr t) =
        let cut = all-cut (FitsOne settings) t.0 t.1 (subst (AllByRecursion (FitsOne settings)) t.3 fit) in
        subst GiveAllBack (sym t.3) (both-back t.0 t.1 (turn-back (left == 0) t.0 old t.2 None cut.0 t.4) (serves-back left t.1 t.2 new ending cut.1 t.5))
