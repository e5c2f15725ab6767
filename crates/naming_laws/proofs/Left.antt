-- What stands at the end of a history was given in it, and not given back since.
use native.Mathlib.Omega.{arith}
use Rattle.std.proofs.Common.{◌≡◌, ◌≢◌, ◌<◌, ◌⊎◌, inl, inr, ℕ, Bool, true, false, not, cond, ◌||◌, List, [], ◌∷◌, ◌++◌, length, refl, sym, ◌∙◌, ap, subst, eqb-true}
use Rattle.std.specs.Prelude.{◌==◌, filter}
use Rattle.std.specs.List.{AllByRecursion, list_any}
use Rattle.std.proofs.lemmas.Bool.{false≢true, and_parts, or_right}
use Rattle.std.proofs.lemmas.List.Folds.{list_any-append}
use Rattle.repo_model.specs.declared.session.SessionResult.TheVariants.{Aborted, Done}
use Rattle.repo_model.specs.Data.{Blob}
use Rattle.repo_model.specs.Settings.{Settings}
use Rattle.repo_model.specs.State.{Lease, State, is_among, rows_of}
use Rattle.repo_model.specs.Effect.{Effect, draws, drops, creates, stages, lends, returns, with_effect, with_effects, caches}
use Rattle.repo_model.specs.Command.{Command, done, put, stage, drop_draft, land}
use Rattle.repo_model.specs.Reply.{Reply, draft, file, no_draft, no_memory, store_fault, is_free}
use Rattle.repo_model.specs.Purge.{expire_all}
use Rattle.repo_model.specs.Turn.{Turn, turn, unlent}
use Rattle.repo_model.specs.History.{Entry, Fits, ticked, after, Legal, end}
use Rattle.repo_laws.specs.Laws.{count_of, leases_of}
use Rattle.repo_laws.specs.Replies.{uses_draft, leaves_drafts, spends, GivesDraft}
use Rattle.repo_laws.proofs.Answered.{free-none, reply-determined, state-determined}
use Rattle.repo_laws.proofs.Cases.{Case, does, lends_file, gives_draft, deploys, aborts, unlists, collects, turn-case, plans_file, lands_one}
use Rattle.repo_laws.proofs.Counts.{among-counts, any-counts}
use Rattle.repo_laws.proofs.Drafts.{drafts-put, drafts-staged, drafts-dropped, drafts-landed}
use Rattle.repo_laws.proofs.Making.{is_bulk, deploys-made, aborts-made, unlists-made, collects-made, is_left, lands-made}
use Rattle.repo_laws.proofs.Places.{is_draw}
use Rattle.repo_laws.proofs.Readers.{none-lent}
use Rattle.naming_laws.specs.Left.{IsDraftLeft, IsLeaseLeft}

any-filter : {X : Type 0} (p q : X → Bool) (xs : List X) → list_any p (filter q xs) ≡ true → list_any p xs ≡ true
any-filter p q [] any = any
any-filter p q (x ∷ xs) any =
    elim (q x) as (λ b. list_any p (cond b (x ∷ filter q xs) (filter q xs)) ≡ true → (p x || list_any p xs) ≡ true) [
      | true ↦ λ is. elim (p x) as (λ b. (b || list_any p (filter q xs)) ≡ true → (b || list_any p xs) ≡ true) [ true ↦ λ _. refl | false ↦ λ later. any-filter p q xs later ] is
      | false ↦ λ later. or_right (p x) (list_any p xs) (any-filter p q xs later)
    ] any

-- an effect that neither draws a draft nor lends a blob
abbrev is_loan : Effect → Bool
is_loan (lends blob) = true
is_loan effect = false

abbrev IsPlain : Effect → Type 0
IsPlain e = (is_draw e ≡ false) × (is_loan e ≡ false)

all-plain : (e : Effect) → is_bulk e ≡ true → IsPlain e
all-plain draws is = absurd (false≢true is)
all-plain (lends blob) is = absurd (false≢true is)
all-plain e is = (refl, refl)

plain-landing : (e : Effect) → is_left e ≡ true → IsPlain e
plain-landing draws is = absurd (false≢true is)
plain-landing (lends blob) is = absurd (false≢true is)
plain-landing e is = (refl, refl)

module _ (settings : Settings) (s : State) (now : ℕ) where
  abbrev Draws : Turn → Type 0
  Draws u = (r : Reply) × GivesDraft s.yard.next_draft r × (u ≡ does r (draws ∷ []))

  abbrev Lends : Turn → Type 0
  Lends u = (blob : Blob) × (u ≡ does (file s.yard.next_lease blob) (lends blob.number ∷ []))

  abbrev Shape : Turn → Type 0
  Shape u = AllByRecursion IsPlain u.effects ⊎ (Draws u ⊎ Lends u)

  case-shape : (c : Command) (u : Turn) → Case settings s now c u → Shape u
  case-shape c u (lends_file repo path tried blob more is) = inr (inr (blob, refl))
  case-shape c u (gives_draft place path more) = inr (inl (draft s.yard.next_draft, refl, refl))
  case-shape c u (plans_file repo path tried member rule at more is) = inr (inl (_, refl, refl))
  case-shape c u (lands_one plan outcome drawn) = inl (lands-made IsPlain plain-landing s now plan outcome (λ blob _. (refl, refl)))
  case-shape c u (deploys m one is going) = inl (deploys-made IsPlain all-plain one now (rows_of one.repo s) (Done (length one.staged)))
  case-shape c u (aborts m one is going) = inl (aborts-made IsPlain all-plain one Aborted)
  case-shape c u (unlists repo h is) = inl (unlists-made IsPlain all-plain h now)
  case-shape c u collects = inl (collects-made IsPlain all-plain settings.grace now s.hosted (unlent (with_effects s (expire_all settings.grace now s.hosted)).yard) (refl, refl))
  case-shape c u case = inl (assumption)

module _ (n : ℕ) where
  abbrev HasDraft : State → Type 0
  HasDraft s = is_among n s.yard.drafts ≡ true

  abbrev HasLease : State → Type 0
  HasLease s = list_any (λ (lease : Lease). lease.number == n) s.yard.leases ≡ true

  -- back over an effect
  draft-before : (s : State) (e : Effect) → is_draw e ≡ false → HasDraft (with_effect s e) → HasDraft s
  draft-before s draws plain there = absurd (false≢true (sym plain))
  draft-before s (drops m) plain there = any-filter (λ k. k == n) (λ k. not (k == m)) s.yard.drafts there
  draft-before s (creates repo path blob moment) plain there = any-filter (λ k. k == n) (λ k. not (k == blob.number)) s.yard.drafts there
  draft-before s (stages at path blob) plain there = any-filter (λ k. k == n) (λ k. not (k == blob.number)) s.yard.drafts there
  draft-before s (caches id path blob moment) plain there = any-filter (λ k. k == n) (λ k. not (k == blob.number)) s.yard.drafts there
  draft-before s e plain there = there

  lease-before : (s : State) (e : Effect) → is_loan e ≡ false → HasLease (with_effect s e) → HasLease s
  lease-before s (lends blob) plain there = absurd (false≢true (sym plain))
  lease-before s (returns lease) plain there = any-filter (λ (l : Lease). l.number == n) (λ (l : Lease). not (l.number == lease)) s.yard.leases there
  lease-before s e plain there = there

  drafts-before : (es : List Effect) (s : State) → AllByRecursion IsPlain es → HasDraft (with_effects s es) → HasDraft s
  drafts-before [] s plain there = there
  drafts-before (e ∷ es) s plain there = draft-before s e plain.0.0 (drafts-before es (with_effect s e) plain.1 there)

  leases-before : (es : List Effect) (s : State) → AllByRecursion IsPlain es → HasLease (with_effects s es) → HasLease s
  leases-before [] s plain there = there
  leases-before (e ∷ es) s plain there = lease-before s e plain.0.1 (leases-before es (with_effect s e) plain.1 there)

  -- one more
  one-more : {X : Type 0} (p : X → Bool) (xs : List X) (x : X) → list_any p (xs ++ x ∷ []) ≡ true → (list_any p xs ≡ true) ⊎ (p x ≡ true)
  one-more p xs x any = by (list_any p xs) (p x) refl refl (sym (list_any-append p xs (x ∷ [])) ∙ any) where
    by : (a b : Bool) → list_any p xs ≡ a → p x ≡ b → (a || (b || false)) ≡ true → (list_any p xs ≡ true) ⊎ (p x ≡ true)
    by true b is _ _ = inl is
    by false true _ is _ = inr is
    by false false _ _ none = absurd (false≢true none)

  module _ (settings : Settings) (s : State) (now faults : ℕ) where
    abbrev left : Turn → State
    left u = with_effects (ticked s now faults) u.effects

    shape-draft : (u : Turn) → Shape settings s now u → HasDraft (left u) → HasDraft s ⊎ GivesDraft n u.reply
    shape-draft u (inl plain) there = inl (drafts-before u.effects (ticked s now faults) plain there)
    shape-draft u (inr (inl (r, gives, is))) there = by (one-more (λ k. k == n) s.yard.drafts s.yard.next_draft (subst (λ (t : Turn). HasDraft (left t)) is there)) where
      by : HasDraft s ⊎ ((s.yard.next_draft == n) ≡ true) → HasDraft s ⊎ GivesDraft n u.reply
      by (inl old) = inl old
      by (inr same) = inr (subst (λ (t : Turn). GivesDraft n t.reply) (sym is) (subst (λ k. GivesDraft k r) (eqb-true s.yard.next_draft n same) gives))
    shape-draft u (inr (inr (blob, is))) there = inl (subst (λ (t : Turn). HasDraft (left t)) is there)

    shape-lease : (u : Turn) → Shape settings s now u → HasLease (left u) → HasLease s ⊎ ((blob : Blob) × (u.reply ≡ file n blob))
    shape-lease u (inl plain) there = inl (leases-before u.effects (ticked s now faults) plain there)
    shape-lease u (inr (inl (_, _, is))) there = inl (subst (λ (t : Turn). HasLease (left t)) is there)
    shape-lease u (inr (inr (blob, is))) there =
        by (one-more (λ (l : Lease). l.number == n) s.yard.leases (record { number = s.yard.next_lease; blob = blob.number }) (subst (λ (t : Turn). HasLease (left t)) is there)) where
          by : HasLease s ⊎ ((s.yard.next_lease == n) ≡ true) → HasLease s ⊎ ((other : Blob) × (u.reply ≡ file n other))
          by (inl old) = inl old
          by (inr same) = inr (blob, ap (λ (t : Turn). t.reply) is ∙ ap (λ k. file k blob) (eqb-true s.yard.next_lease n same))

  bound-of : (r : Reply) → not (leaves_drafts r) ≡ true → is_free r ≡ false
  bound-of no_draft is = refl
  bound-of no_memory is = absurd (false≢true is)
  bound-of store_fault is = absurd (false≢true is)
  bound-of r is = refl

  module _ (settings : Settings) (s : State) (e : Entry) (fits : Fits settings s e) where
    abbrev u : Turn
    u = turn settings s e.moment e.command

    -- what is spent stands no longer
    spent-none : spends n e ≡ true → HasDraft (after settings s e) → ⊥
    spent-none spent there =
        let (used, so) = and_parts (uses_draft n e.command) (not (leaves_drafts e.reply)) spent in
        let some : 0 < count_of n (after settings s e).yard.drafts = among-counts n (after settings s e).yard.drafts there in
        let none : count_of n (after settings s e).yard.drafts ≡ 0 = by e.command refl used (bound-of e.reply so) in
        omega (arith, some, none) where
          by : (c : Command) → e.command ≡ c → uses_draft n c ≡ true → is_free e.reply ≡ false → count_of n (after settings s e).yard.drafts ≡ 0
          by (put repo path m blob) is same bound =
              subst (λ k. count_of k (after settings s e).yard.drafts ≡ 0) (eqb-true m n same) (drafts-put settings s e repo path m blob fits is bound)
          by (stage at path m blob) is same bound =
              subst (λ k. count_of k (after settings s e).yard.drafts ≡ 0) (eqb-true m n same) (drafts-staged settings s e at path m blob fits is bound)
          by (drop_draft m) is same bound = subst (λ k. count_of k (after settings s e).yard.drafts ≡ 0) (eqb-true m n same) (drafts-dropped settings s e m fits is)
          by (land plan outcome) is same bound = drafts-landed settings s e plan outcome n fits is same bound
          by c is never bound = absurd (false≢true never)

    entry-draft : HasDraft (after settings s e) → (HasDraft s × (spends n e ≡ false)) ⊎ GivesDraft n e.reply
    entry-draft there =
        elim (spends n e) as (λ b. spends n e ≡ b → (HasDraft s × (spends n e ≡ false)) ⊎ GivesDraft n e.reply) [
          | true ↦ λ spent. absurd (spent-none spent there)
          | false ↦ λ unspent. by_reply unspent (is_free e.reply) refl
        ] refl where
          by_shape : spends n e ≡ false → is_free e.reply ≡ false → HasDraft s ⊎ GivesDraft n u.reply → (HasDraft s × (spends n e ≡ false)) ⊎ GivesDraft n e.reply
          by_shape unspent bound (inl old) = inl (old, unspent)
          by_shape unspent bound (inr gives) = inr (subst (GivesDraft n) (sym (reply-determined settings s e fits bound)) gives)

          by_reply : spends n e ≡ false → (free : Bool) → is_free e.reply ≡ free → (HasDraft s × (spends n e ≡ false)) ⊎ GivesDraft n e.reply
          by_reply unspent true free = inl (subst (λ es. HasDraft (with_effects (ticked s e.moment e.faults) es)) (free-none settings s e free) there, unspent)
          by_reply unspent false bound =
              by_shape unspent bound (shape-draft settings s e.moment e.faults u (case-shape settings s e.moment e.command u (turn-case settings s e.moment e.command))
              (subst HasDraft (state-determined settings s e bound) there))

    given-none : HasLease (after settings s e) → e.command ≢ done n
    given-none there is =
        let some : 0 < leases_of (after settings s e) n = any-counts (λ (l : Lease). l.number == n) (after settings s e).yard.leases there in
        let none : leases_of (after settings s e) n ≡ 0 = none-lent settings s e n fits is in
        omega (arith, some, none)

    entry-lease : HasLease (after settings s e) → (HasLease s × (e.command ≢ done n)) ⊎ ((blob : Blob) × (e.reply ≡ file n blob))
    entry-lease there = by_reply (is_free e.reply) refl where
      by_shape : is_free e.reply ≡ false → HasLease s ⊎ ((blob : Blob) × (u.reply ≡ file n blob)) → (HasLease s × (e.command ≢ done n)) ⊎ ((blob : Blob) × (e.reply ≡ file n blob))
      by_shape bound (inl old) = inl (old, given-none there)
      by_shape bound (inr (blob, gives)) = inr (blob, reply-determined settings s e fits bound ∙ gives)

      by_reply : (free : Bool) → is_free e.reply ≡ free → (HasLease s × (e.command ≢ done n)) ⊎ ((blob : Blob) × (e.reply ≡ file n blob))
      by_reply true free = inl (subst (λ es. HasLease (with_effects (ticked s e.moment e.faults) es)) (free-none settings s e free) there, given-none there)
      by_reply false bound =
          by_shape bound (shape-lease settings s e.moment e.faults u (case-shape settings s e.moment e.command u (turn-case settings s e.moment e.command))
          (subst HasLease (state-determined settings s e bound) there))

-- what is there after entries was there before them, and each of them kept it; or one of them gave it, and all after that one kept it
module _ (settings : Settings) (Has : State → Type 0) (Keeps Gives : Entry → Type 0) (Left : List Entry → Type 0)
    (step : (s : State) (e : Entry) → Fits settings s e → Has (after settings s e) → (Has s × Keeps e) ⊎ Gives e)
    (first : (e : Entry) (entries : List Entry) → Gives e → AllByRecursion Keeps entries → Left (e ∷ entries))
    (more : (e : Entry) (entries : List Entry) → Left entries → Left (e ∷ entries)) where
  behind : (entries : List Entry) (s : State) → Legal settings s entries → Has (end settings s entries) → (Has s × AllByRecursion Keeps entries) ⊎ Left entries
  behind [] s legal there = inl (there, tt)
  behind (e ∷ entries) s legal there =
      elim (behind entries (after settings s e) legal.1 there) [
        | inl w ↦ elim (step s e legal.0 w.0) [ inl old ↦ inl (old.0, (old.1, w.1)) | inr gives ↦ inr (first e entries gives w.1) ]
        | inr left ↦ inr (more e entries left)
      ]

  given-behind : (entries : List Entry) (s : State) → Legal settings s entries → (Has s → ⊥) → Has (end settings s entries) → Left entries
  given-behind entries s legal none there = elim (behind entries s legal there) [ inl old ↦ absurd (none old.0) | inr left ↦ left ]

pub draft-left : (settings : Settings) (start : State) (entries : List Entry) (n : ℕ) → Legal settings start entries → start.yard.drafts ≡ []
    → is_among n (end settings start entries).yard.drafts ≡ true → IsDraftLeft n entries
draft-left settings start entries n legal none there =
    given-behind settings (HasDraft n) (λ x. spends n x ≡ false) (λ x. GivesDraft n x.reply) (IsDraftLeft n) (entry-draft n settings) (λ e es gives all. ([], es, e, refl, gives, all))
    (λ e es left. (e ∷ left.0, left.1, left.2, ap (λ (l : List Entry). e ∷ l) left.3, left.4, left.5)) entries start legal
    (λ old. false≢true (sym (ap (is_among n) none) ∙ old)) there

pub lease-left : (settings : Settings) (start : State) (entries : List Entry) (n : ℕ) → Legal settings start entries → start.yard.leases ≡ []
    → list_any (λ (lease : Lease). lease.number == n) (end settings start entries).yard.leases ≡ true → IsLeaseLeft n entries
lease-left settings start entries n legal none there =
    given-behind settings (HasLease n) (λ x. x.command ≢ done n) (λ x. (blob : Blob) × (x.reply ≡ file n blob)) (IsLeaseLeft n) (entry-lease n settings)
    (λ e es gives all. ([], es, e, gives.0, refl, gives.1, all))
    (λ e es left. (e ∷ left.0, left.1, left.2, left.3, ap (λ (l : List Entry). e ∷ l) left.4, left.5, left.6)) entries start legal
    (λ old. false≢true (sym (ap (list_any (λ (lease : Lease). lease.number == n)) none) ∙ old)) there
