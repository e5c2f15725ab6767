-- What replies say: a command gets one of its own, refusals change nothing, and all is determined apart from running out of memory and failing records.
use native.Mathlib.Omega.{arith}
use Rattle.std.proofs.Common.{◌≡◌, ℕ, true, false, ◌&&◌, List, [], ◌∷◌, ◌++◌, map, Option, Some, None, refl, sym, ◌∙◌, ap, subst, eqb-true, ◌⊎◌, inl, inr}
use Rattle.std.specs.Prelude.{◌==◌, ◌↔◌, ◌<◌, IsTrue, nat_le, count_by, if◌then◌else◌}
use Rattle.std.specs.List.{AllZip}
use Rattle.std.proofs.lemmas.Bool.{eq-eqb, false≢true, leb-true, leb-false}
use Rattle.repo_model.specs.declared.session.SessionResult.TheVariants.{Aborted}
use Rattle.repo_model.specs.Data.{Blob, Row, Hosted, Staged, Session, repository, session}
use Rattle.fetch_plan.specs.declared.Plan.{Plan}
use Rattle.fetch_plan.specs.declared.Outcome.TheVariants.{Got, Gone}
use Rattle.repo_model.specs.Fetched.{Landing, got_file, got_doc}
use Rattle.repo_model.specs.Settings.{Settings, ProxyRule}
use Rattle.repo_model.specs.Paths.{takes}
use Rattle.repo_model.specs.State.{State, hosted_of, open_of, row_at, files_of, is_open, number_end, most_sessions}
use Rattle.repo_model.specs.Effect.{draws, discards, lends, opens, ends, adds_negative, clears_negative, with_effects}
use Rattle.repo_model.specs.Command.{Command, look, done, may_put, open_session, is_fit}
use Rattle.repo_model.specs.Reply.{Reply, file, given_back, draft, opened, spent, kind_refused, no_session, session_full, sessions_full, no_memory, store_fault, is_free, can_get, takes_memory, fetches}
use Rattle.repo_model.specs.Turn.{Turn, turn, says, draws_or_spent, draws_draft, in_repository, may_put_in, has_room, Seen, is_file, shows, gives_draft_up, lands_file, lands, look_at, is_to_fetch, plan_of, file_limit}
use Rattle.repo_model.specs.History.{Entry, IsReply, due, wants_memory, failed, Fits, ticked, commits, effects_of, after, Legal}
use Rattle.repo_laws.specs.Replies.{is_refusal, given_up, may_change_rows, takes_at, takes_in, AsksAlike}
use Rattle.repo_laws.proofs.Cases.{Case, lands_one, misses, aborts, unlists, turn-case}

module _ (settings : Settings) (s : State) (now : ℕ) where
  case-can_get : (c : Command) (t : Turn) → Case settings s now c t → can_get c t.reply ≡ true
  case-can_get c t (misses repo path tried) = refl
  case-can_get c t case = refl

  -- the reply of a turn is one that its command can get
  pub turn-can_get : (c : Command) → can_get c (turn settings s now c).reply ≡ true
  turn-can_get c = case-can_get c (turn settings s now c) (turn-case settings s now c)

  case-refused : (c : Command) (t : Turn) → Case settings s now c t → is_refusal t.reply ≡ true → t.effects ≡ given_up c t.reply
  case-refused c t (misses repo path tried) refused = refl
  case-refused c t case refused = cc

  -- discarding files changes no rows, and opens none: whatever follows does
  discards-hosted : (number : ℕ) (files : List Staged) (u : State)
      → (with_effects u (map (λ (f : Staged). discards number f.path f.blob.number) files ++ ends number Aborted ∷ [])).hosted ≡ u.hosted
  discards-hosted number [] u = refl
  discards-hosted number (f ∷ files) u = discards-hosted number files (with_effects u (discards number f.path f.blob.number ∷ []))

  -- what lands changes no rows of hosted repositories
  draft-hosted : (under : Option ℕ) (u : State) → (with_effects u (gives_draft_up under)).hosted ≡ u.hosted
  draft-hosted None u = refl
  draft-hosted (Some n) u = refl

  file-hosted : (plan : Plan) (blob : Blob) (found : Option Row) (u : State) → (with_effects u (lands_file plan blob now found)).hosted ≡ u.hosted
  file-hosted plan blob None u = refl
  file-hosted plan blob (Some row) u = draft-hosted plan.draft (with_effects u (clears_negative plan.proxy plan.path ∷ []))

  lands-hosted : (plan : Plan) (outcome : Landing) (u : State) → (with_effects u (lands s now plan outcome)).hosted ≡ u.hosted
  lands-hosted plan (Got (got_file blob)) u = file-hosted plan blob (row_at plan.path (files_of plan.proxy s)) u
  lands-hosted plan (Got (got_doc document)) u = refl
  lands-hosted plan Gone u = draft-hosted plan.draft (with_effects u (adds_negative plan.proxy plan.path now ∷ []))
  lands-hosted plan outcome u = draft-hosted plan.draft u

  case-rows : (c : Command) (t : Turn) → Case settings s now c t → may_change_rows t.reply ≡ false → (u : State) → (with_effects u t.effects).hosted ≡ u.hosted
  case-rows c t (aborts n one is going) still u = discards-hosted one.number one.staged u
  case-rows c t (lands_one plan outcome drawn) still u = lands-hosted plan outcome u
  case-rows c t case still u = cc

-- what an entry does, by its reply
pub free-none : (settings : Settings) (s : State) (e : Entry) → is_free e.reply ≡ true → effects_of settings s e ≡ []
free-none settings s e free = ap (λ b. if b then [] else (turn settings s e.moment e.command).effects) free

due-all : (settings : Settings) (s : State) (e : Entry) → is_free e.reply ≡ false → effects_of settings s e ≡ (turn settings s e.moment e.command).effects
due-all settings s e bound = ap (λ b. if b then [] else (turn settings s e.moment e.command).effects) bound

pub no-free : (settings : Settings) (s : State) (now : ℕ) (c : Command) → is_free (turn settings s now c).reply ≡ false
no-free settings s now c = free-case c (turn settings s now c) (turn-case settings s now c) where
  free-case : (c : Command) (t : Turn) → Case settings s now c t → is_free t.reply ≡ false
  free-case c t (unlists repo h is) = refl
  free-case c t case = refl

pub reply-determined : (settings : Settings) (old : State) (e : Entry) → Fits settings old e → is_free e.reply ≡ false
    → e.reply ≡ (turn settings old e.moment e.command).reply
reply-determined settings old e fits bound = by fits.reply where
  by : IsReply settings old e → e.reply ≡ (turn settings old e.moment e.command).reply
  by (due is _) = is
  by (wants_memory is _ _) = absurd (false≢true (sym bound ∙ ap is_free is))
  by (failed is _ _) = absurd (false≢true (sym bound ∙ ap is_free is))

pub state-determined : (settings : Settings) (old : State) (e : Entry) → is_free e.reply ≡ false
    → after settings old e ≡ with_effects (ticked old e.moment e.faults) (turn settings old e.moment e.command).effects
state-determined settings old e bound = ap (with_effects (ticked old e.moment e.faults)) (due-all settings old e bound)

pub reply-can_get : (settings : Settings) (old : State) (e : Entry) → Fits settings old e → is_free e.reply ≡ false → IsTrue (can_get e.command e.reply)
reply-can_get settings old e fits bound =
    subst (λ r. can_get e.command r ≡ true) (sym (reply-determined settings old e fits bound)) (turn-can_get settings old e.moment e.command)

none-given-up : (c : Command) → given_up c no_memory ≡ []
none-given-up (look repo path tried) = refl
none-given-up c = refl

none-given-up-either : (c : Command) → given_up c store_fault ≡ []
none-given-up-either (look repo path tried) = refl
none-given-up-either c = refl

-- a command that is refused does nothing, or gives up the blob that was sent for nothing
pub entry-refused : (settings : Settings) (old : State) (e : Entry) → Fits settings old e → is_refusal e.reply ≡ true → effects_of settings old e ≡ given_up e.command e.reply
entry-refused settings old e fits refused = by fits.reply where
  by : IsReply settings old e → effects_of settings old e ≡ given_up e.command e.reply
  by (due is _) =
      due-all settings old e (ap is_free is ∙ no-free settings old e.moment e.command)
      ∙ case-refused settings old e.moment e.command (turn settings old e.moment e.command) (turn-case settings old e.moment e.command) (ap is_refusal (sym is) ∙ refused)
      ∙ ap (given_up e.command) (sym is)
  by (wants_memory is _ _) = free-none settings old e (ap is_free is) ∙ sym (none-given-up e.command) ∙ ap (given_up e.command) (sym is)
  by (failed is _ _) = free-none settings old e (ap is_free is) ∙ sym (none-given-up-either e.command) ∙ ap (given_up e.command) (sym is)

-- rows change only where the reply says so
pub entry-rows : (settings : Settings) (old : State) (e : Entry) → Fits settings old e → may_change_rows e.reply ≡ false → (after settings old e).hosted ≡ old.hosted
entry-rows settings old e fits still = by fits.reply where
  none : is_free e.reply ≡ true → (after settings old e).hosted ≡ old.hosted
  none free = ap (λ es. (with_effects (ticked old e.moment e.faults) es).hosted) (free-none settings old e free)

  by : IsReply settings old e → (after settings old e).hosted ≡ old.hosted
  by (due is _) =
      ap (λ es. (with_effects (ticked old e.moment e.faults) es).hosted) (due-all settings old e (ap is_free is ∙ no-free settings old e.moment e.command))
      ∙ case-rows settings old e.moment e.command (turn settings old e.moment e.command) (turn-case settings old e.moment e.command) (ap may_change_rows (sym is) ∙ still)
      (ticked old e.moment e.faults)
  by (wants_memory is _ _) = none (ap is_free is)
  by (failed is _ _) = none (ap is_free is)

-- giving up is never refused
pub lease-given_back : (settings : Settings) (old : State) (e : Entry) (lease : ℕ) → Fits settings old e → e.command ≡ done lease → e.reply ≡ given_back
lease-given_back settings old e lease fits is_done = by fits.reply where
  by : IsReply settings old e → e.reply ≡ given_back
  by (due is _) = is ∙ ap (λ c. (turn settings old e.moment c).reply) is_done
  by (wants_memory is takes _) = absurd (false≢true (ap takes_memory (sym is_done) ∙ takes))
  by (failed is commits_so _) = absurd (false≢true (ap (λ c. commits c (turn settings old e.moment c).effects) (sym is_done) ∙ commits_so))

-- histories that ask alike from one state are the same
same_reply : (settings : Settings) (old : State) (one other : Entry) → Fits settings old one → Fits settings old other → AsksAlike one other → one.reply ≡ other.reply
same_reply settings old one other fits fits' alike = by fits.reply fits'.reply where
  by : IsReply settings old one → IsReply settings old other → one.reply ≡ other.reply
  by (wants_memory is _ _) _ = is ∙ sym (alike.memory.0 is)
  by (failed is _ _) _ = is ∙ sym (alike.store.0 is)
  by (due is _) (wants_memory is' _ _) = alike.memory.1 is' ∙ sym is'
  by (due is _) (failed is' _ _) = alike.store.1 is' ∙ sym is'
  by (due is _) (due is' _) =
      is ∙ ap (λ m. (turn settings old m one.command).reply) alike.moment ∙ ap (λ c. (turn settings old other.moment c).reply) alike.command ∙ sym is'

same_entry : (c d : Command) (m n : ℕ) (r s : Reply) (j k : ℕ) → c ≡ d → m ≡ n → r ≡ s → j ≡ k →
    let first : Entry = record { command = c; moment = m; reply = r; faults = j } in
    let second : Entry = record { command = d; moment = n; reply = s; faults = k } in first ≡ second
same_entry c d m n r s j k is_command is_moment is_reply is_faults = cc

pub histories_same : (settings : Settings) (start : State) (one other : List Entry) → Legal settings start one → Legal settings start other → AllZip AsksAlike one other → one ≡ other
histories_same settings start [] [] legal legal' alike = refl
histories_same settings start [] (e ∷ other) legal legal' alike = absurd alike
histories_same settings start (e ∷ one) [] legal legal' alike = absurd alike
histories_same settings start (e ∷ one) (f ∷ other) legal legal' alike =
    let same : e ≡ f = same_entry e.command f.command e.moment f.moment e.reply f.reply e.faults f.faults alike.0.command alike.0.moment
    (same_reply settings start e f legal.0 legal'.0 alike.0) alike.0.faults in
    let legal_there = subst (λ (x : Entry). Legal settings (after settings start x) other) (sym same) legal'.1 in
    let rest = histories_same settings (after settings start e) one other legal.1 legal_there alike.1 in
    cc

-- numbers that are spent
-- what draws the next number is refused exactly where there is none
spent-by : (next : ℕ) (t : Turn) → (t.reply ≡ spent → ⊥) → ((draws_or_spent next t).reply ≡ spent) ↔ (next ≡ number_end)
spent-by next t other =
    elim (next == number_end) as (λ b. (next == number_end) ≡ b → ((if b then says spent else t).reply ≡ spent) ↔ (next ≡ number_end)) [
      | true ↦ λ last. ((λ _. eqb-true next number_end last), (λ _. refl))
      | false ↦ λ more. ((λ is. absurd (other is)), (λ is. absurd (false≢true (sym more ∙ eq-eqb next number_end is))))
    ] refl

draft-spent : (next : ℕ) → ((draws_draft next).reply ≡ spent) ↔ (next ≡ number_end)
draft-spent next = spent-by next (record { reply = draft next; effects = draws ∷ [] }) (λ is. let e : draft next ≡ spent = is in cc)

abbrev SpendsIn : ℕ → List ℕ → Option Hosted → Type 0
SpendsIn next path found = ((in_repository path found (draws_draft next)).reply ≡ spent) ↔ (IsTrue (is_fit (λ h. takes h.rule path) found) × (next ≡ number_end))

spends-in : (next : ℕ) (path : List ℕ) (found : Option Hosted) → SpendsIn next path found
spends-in next path None = ((λ is. absurd (let e : kind_refused ≡ spent = is in cc)), (λ both. absurd (false≢true both.0)))
spends-in next path (Some h) =
    elim (takes h.rule path) as (λ b. ((if b then draws_draft next else says kind_refused).reply ≡ spent) ↔ (IsTrue b × (next ≡ number_end))) [
      | true ↦ ((λ is. (refl, (draft-spent next).0 is)), (λ both. (draft-spent next).1 both.1))
      | false ↦ ((λ is. absurd (let e : kind_refused ≡ spent = is in cc)), (λ both. absurd (false≢true both.0)))
    ]

pub drafts-spent : (settings : Settings) (s : State) (now : ℕ) (repo path : List ℕ)
    → ((turn settings s now (may_put (repository repo) path)).reply ≡ spent) ↔ (IsTrue (takes_at repo path s) × (s.yard.next_draft ≡ number_end))
drafts-spent settings s now repo path = spends-in s.yard.next_draft path (hosted_of repo s)

spends-staged : (s : State) (path : List ℕ) (found : Option Session)
    → ((may_put_in s path found).reply ≡ spent) ↔ (IsTrue (is_fit (λ one. takes_at one.repo path s && has_room path one.staged) found) × (s.yard.next_draft ≡ number_end))
spends-staged s path None = ((λ is. absurd (let e : no_session ≡ spent = is in cc)), (λ both. absurd (false≢true both.0)))
spends-staged s path (Some one) = by (hosted_of one.repo s) where
  by : (found : Option Hosted) → ((in_repository path found (if has_room path one.staged then draws_draft s.yard.next_draft else says session_full)).reply ≡ spent)
      ↔ (IsTrue (is_fit (λ h. takes h.rule path) found && has_room path one.staged) × (s.yard.next_draft ≡ number_end))
  by None = ((λ is. absurd (let e : kind_refused ≡ spent = is in cc)), (λ both. absurd (false≢true both.0)))
  by (Some h) =
      elim (takes h.rule path)
      as (λ b. ((if b then (if has_room path one.staged then draws_draft s.yard.next_draft else says session_full) else says kind_refused).reply ≡ spent)
      ↔ (IsTrue (b && has_room path one.staged) × (s.yard.next_draft ≡ number_end))) [
        | true ↦ elim (has_room path one.staged)
            as (λ b. ((if b then draws_draft s.yard.next_draft else says session_full).reply ≡ spent) ↔ (IsTrue b × (s.yard.next_draft ≡ number_end))) [
              | true ↦ ((λ is. (refl, (draft-spent s.yard.next_draft).0 is)), (λ both. (draft-spent s.yard.next_draft).1 both.1))
              | false ↦ ((λ is. absurd (let e : session_full ≡ spent = is in cc)), (λ both. absurd (false≢true both.0)))
            ]
        | false ↦ ((λ is. absurd (let e : kind_refused ≡ spent = is in cc)), (λ both. absurd (false≢true both.0)))
      ]

pub staged-spent : (settings : Settings) (s : State) (now n : ℕ) (path : List ℕ)
    → ((turn settings s now (may_put (session n) path)).reply ≡ spent) ↔ (IsTrue (takes_in n path s) × (s.yard.next_draft ≡ number_end))
staged-spent settings s now n path = spends-staged s path (open_of n s)

abbrev LacksLease : State → Seen → Type 0
LacksLease s seen = ((blob : Blob) × (seen ≡ is_file blob)) × (s.yard.next_lease ≡ number_end)

abbrev LacksDraft : State → Seen → Type 0
LacksDraft s seen = ((member : ℕ) × (rule : ProxyRule) × (at : List ℕ) × (seen ≡ is_to_fetch member rule at true)) × (s.yard.next_draft ≡ number_end)

never-spent : (s : State) (seen : Seen) (r : Reply) → (r ≡ spent → ⊥) → ((blob : Blob) → seen ≡ is_file blob → ⊥) → ((member : ℕ) (rule : ProxyRule) (at : List ℕ) → seen ≡ is_to_fetch member rule at true → ⊥)
    → (r ≡ spent) ↔ (LacksLease s seen ⊎ LacksDraft s seen)
never-spent s seen r other no_file no_fetch = ((λ is. absurd (other is)), (λ either. by either)) where
  by : LacksLease s seen ⊎ LacksDraft s seen → r ≡ spent
  by (inl ((blob, is), _)) = absurd (no_file blob is)
  by (inr ((member, rule, at, is), _)) = absurd (no_fetch member rule at is)

shows-spent : (settings : Settings) (s : State) (seen : Seen) → ((shows settings s.yard seen).reply ≡ spent) ↔ (LacksLease s seen ⊎ LacksDraft s seen)
shows-spent settings s (is_file blob) =
    let (lacks, spends) = spent-by s.yard.next_lease (record { reply = file s.yard.next_lease blob; effects = lends blob.number ∷ [] }) (λ is. let e : file s.yard.next_lease blob ≡ spent = is in cc) in
    ((λ is. inl ((blob, refl), lacks is)), (λ either. spends (by either))) where
      by : LacksLease s (is_file blob) ⊎ LacksDraft s (is_file blob) → s.yard.next_lease ≡ number_end
      by (inl lacking) = lacking.1
      by (inr ((member, rule, at, is), _)) = absurd (let e : is_file blob ≡ is_to_fetch member rule at true = is in cc)
shows-spent settings s (is_to_fetch member rule at true) =
    let planned : Reply = fetches (plan_of member rule at (Some s.yard.next_draft) (file_limit settings)) in
    let (lacks, spends) = spent-by s.yard.next_draft (record { reply = planned; effects = draws ∷ [] }) (λ is. let e : planned ≡ spent = is in cc) in
    ((λ is. inr ((member, rule, at, refl), lacks is)), (λ either. spends (by either))) where
      by : LacksLease s (is_to_fetch member rule at true) ⊎ LacksDraft s (is_to_fetch member rule at true) → s.yard.next_draft ≡ number_end
      by (inl ((blob, is), _)) = absurd (let e : is_to_fetch member rule at true ≡ is_file blob = is in cc)
      by (inr lacking) = lacking.1
shows-spent settings s seen = never-spent s seen (shows settings s.yard seen).reply (λ e. cc) (λ blob e. cc) (λ m r p e. cc)

pub leases-spent : (settings : Settings) (s : State) (now : ℕ) (repo path tried : List ℕ)
    → ((turn settings s now (look repo path tried)).reply ≡ spent) ↔ (LacksLease s (look_at settings s now repo tried path) ⊎ LacksDraft s (look_at settings s now repo tried path))
leases-spent settings s now repo path tried = shows-spent settings s (look_at settings s now repo tried path)

opens-spent : (next : ℕ) (repo : List ℕ) → ((draws_or_spent next (record { reply = opened next; effects = opens next repo ∷ [] })).reply ≡ spent) ↔ (next ≡ number_end)
opens-spent next repo = spent-by next (record { reply = opened next; effects = opens next repo ∷ [] }) (λ is. let e : opened next ≡ spent = is in cc)

pub sessions-spent : (settings : Settings) (s : State) (now : ℕ) (repo : List ℕ)
    → ((turn settings s now (open_session repo)).reply ≡ spent) ↔ ((count_by is_open s.sessions < most_sessions) × (s.yard.next_session ≡ number_end))
sessions-spent settings s now repo =
    let many = count_by is_open s.sessions in
    let next = s.yard.next_session in
    elim (nat_le most_sessions many)
    as (λ b. nat_le most_sessions many ≡ b
    → ((if b then says sessions_full else draws_or_spent next (record { reply = opened next; effects = opens next repo ∷ [] })).reply ≡ spent) ↔ ((many < most_sessions) × (next ≡ number_end))) [
      | true ↦ λ full. ((λ is. absurd (let e : sessions_full ≡ spent = is in cc)), (λ both. absurd (omega (arith, leb-true most_sessions many full, both.0))))
      | false ↦ λ few. ((λ is. (leb-false most_sessions many few, (opens-spent next repo).0 is)), (λ both. (opens-spent next repo).1 both.1))
    ] refl
