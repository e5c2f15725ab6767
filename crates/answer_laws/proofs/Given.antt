-- Where a turn asks with a draft, an earlier entry of it gave the draft, and none between the two has spent it.
use Rattle.std.proofs.Common.{◌≡◌, ◌⊎◌, inl, inr, ℕ, zero, suc, ◌==◌, ◌&&◌, not, Bool, true, false, List, [], ◌∷◌, ◌++◌, Option, Some, None, refl, sym, subst, ap, ◌∙◌, append_assoc, IsTrue, append-nil}
use Rattle.std.specs.Prelude.{if◌then◌else◌, IsSome}
use Rattle.fetch_plan.specs.declared.Plan.{Plan}
use Rattle.std.specs.List.{AllByRecursion}
use Rattle.std.proofs.lemmas.Bool.{false≢true, eq-eqb}
use Rattle.repo_model.specs.Command.{Command, look, may_put, put, stage, drop_draft, unlist, collect, land}
use Rattle.repo_model.specs.Effect.{Effect}
use Rattle.repo_model.specs.Fetched.{Landing}
use Rattle.repo_model.specs.History.{Entry, Fits, IsReply, due as due_reply, wants_memory, failed}
use Rattle.repo_model.specs.Reply.{Reply, draft, fetches, landed, no_draft, no_memory, store_fault, same, is_free, can_get, is_put_reply, is_stage_reply}
use Rattle.repo_model.specs.Settings.{Settings}
use Rattle.repo_model.specs.State.{State}
use Rattle.repo_model.specs.Turn.{is_drawn, lands, says as turn_says, turn}
use Rattle.repo_laws.proofs.Answered.{reply-can_get}
use Rattle.repo_laws.specs.Replies.{GivesDraft, is_under, leaves_drafts, spends, uses_draft}
use Rattle.repo_laws.proofs.HoldingLists.{all-join, all-split}
use Rattle.repo_course.specs.Course.{Close, Course, asks, does, says, stops}
use Rattle.repo_course.specs.declared.mode.ResponseMode.{ResponseMode}
use Rattle.repo_course.specs.declared.outcomes.End.{End}
use Rattle.repo_course.specs.Serving.{Follows, Outside}
use Rattle.course_laws.specs.Duties.{Keeps, MayAsk, Stand, draft_after, left_by, spends_draft, stand_after, stand_done}
use Rattle.answer_laws.specs.Why.{AsksWith, HasGiven}
use Rattle.course_laws.proofs.Passes.{ArePass, IsPassCommand, action-asks}

-- so does each that is answered that there is none
abbrev pub AllAskWith : List Entry → List Entry → Type 0
AllAskWith done [] = Unit {0}
AllAskWith done (e ∷ es) = (e.reply ≡ no_draft → AsksWith done e) × AllAskWith (done ++ e ∷ []) es

-- a reply that the command can get, or a free one
abbrev CanBe : Command → Reply → Type 0
CanBe command reply = (is_free reply ≡ true) ⊎ IsTrue (can_get command reply)

module _ (settings : Settings) where
  abbrev pub FitsOne : Entry → Type 0
  FitsOne e = (s : State) × Fits settings s e

  can-be : (e : Entry) → FitsOne e → CanBe e.command e.reply
  can-be e fits = pick (is_free e.reply) refl
    where
      pick : (b : Bool) → is_free e.reply ≡ b → CanBe e.command e.reply
      pick true is = inl is
      pick false is = inr (reply-can_get settings fits.0 e fits.1 is)

  no-draft-by : (e : Entry) → FitsOne e → e.reply ≡ no_draft → IsTrue (can_get e.command no_draft)
  no-draft-by e fits is =
      subst (λ (r : Reply). IsTrue (can_get e.command r)) is (reply-can_get settings fits.0 e fits.1 (subst (λ (r : Reply). is_free r ≡ false) (sym is) refl))

  -- what lands under no draft is not told that there is none
  land-drawn : (e : Entry) → FitsOne e → (plan : Plan) (outcome : Landing) → e.command ≡ land plan outcome → e.reply ≡ no_draft → IsSome plan.draft
  land-drawn e fits plan outcome is none = by fits.1.reply
    where
      under : (drafts : List ℕ) (effects : List Effect) (held : Option ℕ) → no_draft ≡ (if is_drawn held drafts then record { reply = landed; effects = effects } else turn_says no_draft).reply → IsSome held
      under drafts effects None is-it = absurd (cc)
      under drafts effects (Some n) is-it = refl

      by : IsReply settings fits.0 e → IsSome plan.draft
      by (due_reply replied did) =
          under fits.0.yard.drafts (lands fits.0 e.moment plan outcome) plan.draft (sym none ∙ replied ∙ ap (λ (c : Command). (turn settings fits.0 e.moment c).reply) is)
      by (wants_memory replied can did) = let no : no_draft ≡ no_memory = sym none ∙ replied in absurd (cc)
      by (failed replied can rose) = let no : no_draft ≡ store_fault = sym none ∙ replied in absurd (cc)

  -- only who holds a draft is told that it is none
  held-by : (command : Command) (s : Stand) → MayAsk command s → IsTrue (can_get command no_draft)
      → ((plan : Plan) (outcome : Landing) → command ≡ land plan outcome → IsSome plan.draft) → (n : ℕ) × (s.draft ≡ Some n) × IsTrue (uses_draft n command)
  held-by (put repo path m blob) s may can drawn = (m, may.1, eq-eqb m m refl)
  held-by (stage at path m blob) s may can drawn = (m, may.1, eq-eqb m m refl)
  held-by (land plan outcome) s may can drawn = pick plan.draft (drawn plan outcome refl) may.2
    where
      pick : (under : Option ℕ) → IsSome under → s.draft ≡ under → (n : ℕ) × (s.draft ≡ Some n) × IsTrue (is_under n under)
      pick None some is = absurd (false≢true some)
      pick (Some m) some is = (m, is, eq-eqb m m refl)
  held-by command s may can drawn = absurd (false≢true can)

  -- a reply by which the draft is still held has not spent it
  leaves-put : (reply : Reply) → (is_free reply ≡ true) ⊎ IsTrue (is_put_reply reply) → spends_draft reply ≡ false → leaves_drafts reply ≡ true
  leaves-put no_draft can is = refl
  leaves-put reply (inl free) is = (cc)
  leaves-put reply (inr can) is = (cc)

  leaves-staged : (reply : Reply) → (is_free reply ≡ true) ⊎ IsTrue (is_stage_reply reply) → spends_draft reply ≡ false → leaves_drafts reply ≡ true
  leaves-staged no_draft can is = refl
  leaves-staged reply (inl free) is = (cc)
  leaves-staged reply (inr can) is = (cc)

  -- a draft that is held after an entry was held before it, and the entry has not spent it; or the entry gave it
  abbrev Held : Command → Reply → Stand → ℕ → Type 0
  Held command reply s n = ((s.draft ≡ Some n) × ((uses_draft n command && not (leaves_drafts reply)) ≡ false)) ⊎ GivesDraft n reply

  -- what has not landed leaves its draft
  land-held : (n : ℕ) (under held : Option ℕ) → held ≡ Some n → (held ≡ Some n) × ((is_under n under && false) ≡ false)
  land-held n under held is = (is, elim (is_under n under) as (λ b. (b && false) ≡ false) [ true ↦ refl | false ↦ refl ])

  put-held : (m n : ℕ) (held : Option ℕ) (reply : Reply) (b : Bool) → spends_draft reply ≡ b → (spends_draft reply ≡ false → leaves_drafts reply ≡ true)
      → (if b then None else held) ≡ Some n → (held ≡ Some n) × (((m == n) && not (leaves_drafts reply)) ≡ false)
  put-held m n held reply false is leaves still = (still, subst (λ b. ((m == n) && not b) ≡ false) (sym (leaves is)) at_none)
    where
      at_none : ((m == n) && false) ≡ false
      at_none = elim (m == n) as (λ b. (b && false) ≡ false) [ true ↦ refl | false ↦ refl ]
  put-held m n held reply true is leaves still = absurd (cc)

  held-after : (command : Command) (reply : Reply) (s : Stand) (n : ℕ) → MayAsk command s → CanBe command reply → draft_after command reply s.draft ≡ Some n → Held command reply s n
  held-after (may_put place path) (draft m) s n may can is = let same : m ≡ n = cc in inr same
  held-after (may_put place path) reply s n may can is = absurd (let no : s.draft ≡ None = may.1 in cc)
  held-after (put repo path m blob) reply s n may can is = inl (put-held m n s.draft reply (spends_draft reply) refl (leaves-put reply can) is)
  held-after (stage at path m blob) reply s n may can is = inl (put-held m n s.draft reply (spends_draft reply) refl (leaves-staged reply can) is)
  held-after (drop_draft m) reply s n may can is = absurd (cc)
  held-after (look repo path tried) (fetches plan) s n may can is = inr is
  held-after (land plan outcome) landed s n may can is = absurd (cc)
  held-after (land plan outcome) no_draft s n may can is = inl (land-held n plan.draft s.draft is)
  held-after (land plan outcome) no_memory s n may can is = inl (land-held n plan.draft s.draft is)
  held-after (land plan outcome) store_fault s n may can is = inl (land-held n plan.draft s.draft is)
  held-after (land plan outcome) reply s n may (inl free) is = absurd (false≢true free)
  held-after (land plan outcome) reply s n may (inr can) is = absurd (false≢true can)
  held-after command reply s n may can is = inl (is, refl)

  -- among these entries each draft that is held was given
  abbrev AreGiven : Stand → List Entry → Type 0
  AreGiven s done = (n : ℕ) → s.draft ≡ Some n → HasGiven done n

  given-longer : (done more : List Entry) (n : ℕ) → AllByRecursion (λ (x : Entry). spends n x ≡ false) more → HasGiven done n → HasGiven (done ++ more) n
  given-longer done more n unspent has = record {
    first = has.first;
    given = has.given;
    since = has.since ++ more;
    parts = ap (λ (l : List Entry). l ++ more) has.parts ∙ append_assoc has.first (has.given ∷ has.since) more;
    draft_is = has.draft_is;
    unspent = all-join (λ (x : Entry). spends n x ≡ false) has.since more has.unspent unspent;
  }

  given-after : (s : Stand) (e : Entry) (done : List Entry) → FitsOne e → MayAsk e.command s → AreGiven s done → AreGiven (stand_after e.command e.reply s) (done ++ e ∷ [])
  given-after s e done fits may given n is = pick (held-after e.command e.reply s n may (can-be e fits) is)
    where
      pick : Held e.command e.reply s n → HasGiven (done ++ e ∷ []) n
      pick (inl (held, unspent)) = given-longer done (e ∷ []) n (unspent, tt) (given n held)
      pick (inr gave) = record { first = done; given = e; since = []; parts = refl; draft_is = gave; unspent = tt }

  -- a pass spends none, and is told of none
  pass-spends : (command : Command) (reply : Reply) (n : ℕ) → IsPassCommand command → (uses_draft n command && not (leaves_drafts reply)) ≡ false
  pass-spends (unlist repo) reply n is = refl
  pass-spends collect reply n is = refl
  pass-spends command reply n is = absurd is

  pass-unspent : (n : ℕ) (entries : List Entry) → ArePass entries → AllByRecursion (λ (x : Entry). spends n x ≡ false) entries
  pass-unspent n [] pass = tt
  pass-unspent n (e ∷ es) pass = (pass-spends e.command e.reply n pass.0, pass-unspent n es pass.1)

  pass-no-draft : (command : Command) → IsPassCommand command → IsTrue (can_get command no_draft) → ⊥
  pass-no-draft (unlist repo) is can = false≢true can
  pass-no-draft collect is can = false≢true can
  pass-no-draft command is can = absurd is

  pass-asks : (done entries : List Entry) → AllByRecursion FitsOne entries → ArePass entries → AllAskWith done entries
  pass-asks done [] fit pass = tt
  pass-asks done (e ∷ es) fit pass = ((λ none. absurd (pass-no-draft e.command pass.0 (no-draft-by e fit.0 none))), pass-asks (done ++ e ∷ []) es fit.1 pass.1)

  both-ask : (done xs ys : List Entry) → AllAskWith done xs → AllAskWith (done ++ xs) ys → AllAskWith done (xs ++ ys)
  both-ask done [] ys first rest = subst (λ (l : List Entry). AllAskWith l ys) (append-nil done) rest
  both-ask done (x ∷ xs) ys first rest =
      (first.0, both-ask (done ++ x ∷ []) xs ys first.1 (subst (λ (l : List Entry). AllAskWith l ys) (sym (append_assoc done (x ∷ []) xs)) rest))

  module _ (tells : Type 0) (by_text : List ℕ → Option Close) (mode : ResponseMode) where
    pub follows-ask : (c : Course) (n : ℕ) (s : Stand) → Keeps by_text mode c n s → (done entries : List Entry) → AllByRecursion FitsOne entries → AreGiven s done
        → (old new : Outside) (end : Option End) → Follows tells c entries old new end → AllAskWith done entries
    follows-ask (asks command next) zero s k done [] fit given old new end f = absurd f
    follows-ask (asks command next) zero s k done (e ∷ es) fit given old new end f = absurd k
    follows-ask (asks command next) (suc n) s k done [] fit given old new end f = absurd f
    follows-ask (asks command next) (suc n) s k done (e ∷ es) fit given old new end f =
        let may : MayAsk e.command s = subst (λ c. MayAsk c s) (sym f.0) k.0 in
        let further : AreGiven (stand_after command e.reply s) (done ++ e ∷ []) = subst (λ c. AreGiven (stand_after c e.reply s) (done ++ e ∷ [])) f.0 (given-after s e done fit.0 may given) in (
          (λ none. let held = held-by e.command s may (no-draft-by e fit.0 none) (λ plan outcome is. land-drawn e fit.0 plan outcome is none) in record { number = held.0; asks = held.2; has = given held.0 held.1 }),
          follows-ask (next e.reply) n (stand_after command e.reply s) (k.1 e.reply) (done ++ e ∷ []) es fit.1 further old new end f.1,
        )
    follows-ask (does io_action next) n s k done entries fit given old new end f =
        let cut = all-split FitsOne f.1 f.2 (subst (AllByRecursion FitsOne) f.4 fit) in
        let pass = action-asks tells io_action f.0 f.1 old f.3 f.5 in
        subst (AllAskWith done) (sym f.4)
        (both-ask done f.1 f.2 (pass-asks done f.1 cut.0 pass)
        (follows-ask (next f.0) (left_by io_action n) (stand_done by_text io_action f.0 s) (k.2 f.0) (done ++ f.1) f.2 cut.1
        (λ m is. given-longer done f.1 m (pass-unspent m f.1 pass) (given m is)) f.3 new end f.6))
    follows-ask (says said own) n s k done entries fit given old new end f = subst (AllAskWith done) (sym f.0) tt
    follows-ask (stops stop) n s k done entries fit given old new end f = subst (AllAskWith done) (sym f.0) tt
