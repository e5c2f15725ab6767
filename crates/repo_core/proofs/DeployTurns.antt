-- The commands of deployment sessions, as turns of the machine: those that open a session and that stage in it.
use Rattle.std.proofs.Common.{◌≡◌, ◌⊎◌, ℕ, ◌+◌, Bool, true, false, if◌then◌else◌, List, [], ◌∷◌, ◌++◌, length, Option, Some, None, inl, inr, refl, sym, ap, ◌∙◌, subst, eqb-true}
use Rattle.std.specs.Prelude.{◌==◌, IsTrue, count_by, nat_le, nat_lt}
use Rattle.std.proofs.lemmas.Bool.{and_parts}
use Rattle.mvn_coords.specs.Kind.{kind}
use Rattle.deploy_session.specs.Known.{Known, begin_turn, known_after, sessions_after_all}
use Rattle.repo_model.specs.Command.{is_file_path, is_parcel, may_put, meets, open_session, put_doc, put_side, stage}
use Rattle.repo_model.specs.Data.{Blob, Hosted, Session, is_same_print, session}
use Rattle.repo_model.specs.Effect.{drops, opens, recorded, stages, with_effects, with_number, without_draft, yard_after}
use Rattle.repo_model.specs.Reply.{Reply, ended, is_free, no_draft, no_memory, no_session, noted, opened, same, session_full, sessions_full, spent, staged, store_fault, taken, takes_memory}
use Rattle.repo_model.specs.State.{State, Yard, hosted_of, is_among, is_open, is_open_at, most_sessions, number_end, open_of}
use Rattle.repo_model.specs.Settings.{Settings}
use Rattle.repo_model.specs.Turn.{Turn, draws_draft, draws_or_spent, has_room, judged, may_put_in, says, stage_at, stage_in, staged_at, turn, with_open}
use Rattle.repo_parts.specs.Deploys.{AreStagedInUse, kept_staged, yard_opened, yard_staged}
use Rattle.repo_parts.specs.Hosted.{AreInUse}
use Rattle.repo_core.specs.Turn.{Turned}
use Rattle.repo_core.specs.Whole.{Parts}
use Rattle.repo_core.proofs.DraftLemmas.{if-so}
use Rattle.repo_parts.proofs.PutReplies.{by-free}
use Rattle.repo_parts.proofs.StagedLemmas.{staged-file, staged-more}
use Rattle.repo_core.proofs.Turning.{judges-nothing, draws-quiet, if-quiet, in-quiet}
use Rattle.repo_parts.proofs.UseLemmas.{all-more}
use Rattle.repo_parts.proofs.AmongLemmas.{among-new}

-- a reply that is due, or one that changes nothing where something was to be recorded
pub due-or-free : (t : Turn) (reply : Reply) → (reply ≡ t.reply) ⊎ (IsTrue (is_free reply) × (recorded t.effects ≡ [] → ⊥)) → (reply ≡ t.reply) ⊎ IsTrue (is_free reply)
due-or-free t reply (inl is) = inl is
due-or-free t reply (inr so) = inr so.0

-- ---- a session is opened
module _ (s : State) (repo : List ℕ) (k : Known) (sessions : k.sessions ≡ s.sessions) (next : k.next ≡ s.yard.next_session) where
  abbrev due_open : Turn
  due_open = begin_turn k repo

  abbrev open_by : Bool → Bool → Turn
  open_by full end = if full then says sessions_full else (if end then says spent else record { reply = opened k.next; effects = opens k.next repo ∷ [] })

  pub turn-open : (w : Parts) → w.state ≡ s → turn w.settings w.state w.state.last (open_session repo) ≡ due_open
  turn-open w is =
      ap (λ (t : State). turn w.settings t w.state.last (open_session repo)) is
      ∙ ap (λ ss. if nat_le most_sessions (count_by is_open ss) then says sessions_full else draws_or_spent s.yard.next_session (record { reply = opened s.yard.next_session; effects = opens s.yard.next_session repo ∷ [] })) (sym sessions)
      ∙ ap (λ m. if nat_le most_sessions (count_by is_open k.sessions) then says sessions_full else draws_or_spent m (record { reply = opened m; effects = opens m repo ∷ [] })) (sym next)

  abbrev pub Leaves : Turn → Reply → Type 0
  Leaves t r = record s { sessions = (if is_free r then k else known_after t.effects k).sessions; yard = yard_opened r s.yard } ≡ with_effects s (if is_free r then [] else t.effects)

  open-by : (full end : Bool) → Leaves (open_by full end) (open_by full end).reply
  open-by true end = ap (λ ss. record s { sessions = ss }) sessions
  open-by false true = ap (λ ss. record s { sessions = ss }) sessions
  open-by false false = ap (λ ss. record s { sessions = ss ++ record { number = k.next; repo = repo; staged = []; ended = None } ∷ []; yard = record s.yard { next_session = k.next + 1 } }) sessions

  pub open-left : (reply : Reply) → (reply ≡ due_open.reply) ⊎ IsTrue (is_free reply) → Leaves due_open reply
  open-left reply (inl is) = subst (Leaves due_open) (sym is) (open-by (nat_le most_sessions (count_by is_open k.sessions)) (k.next == number_end))
  open-left reply (inr is) = by-free (Leaves due_open) reply is (ap (λ ss. record s { sessions = ss }) sessions) (ap (λ ss. record s { sessions = ss }) sessions)

  -- the next number stays the same in both places
  next-by : (full end : Bool) → (yard_opened (open_by full end).reply s.yard).next_session ≡ (if is_free (open_by full end).reply then k else known_after (open_by full end).effects k).next
  next-by true end = sym next
  next-by false true = sym next
  next-by false false = refl

  pub open-next : (reply : Reply) → (reply ≡ due_open.reply) ⊎ IsTrue (is_free reply) → (yard_opened reply s.yard).next_session ≡ (if is_free reply then k else known_after due_open.effects k).next
  open-next reply (inl is) =
      subst (λ r. (yard_opened r s.yard).next_session ≡ (if is_free r then k else known_after due_open.effects k).next) (sym is)
      (next-by (nat_le most_sessions (count_by is_open k.sessions)) (k.next == number_end))
  open-next reply (inr is) = by-free (λ r. (yard_opened r s.yard).next_session ≡ (if is_free r then k else known_after due_open.effects k).next) reply is (sym next) (sym next)

-- what of sessions holds of those that are known and of a new one holds then
pub open-all : (P : List Session → Type 0) (repo : List ℕ) (k : Known) (reply : Reply) → P k.sessions → P (k.sessions ++ record { number = k.next; repo = repo; staged = []; ended = None } ∷ [])
    → P (if is_free reply then k else known_after (begin_turn k repo).effects k).sessions
open-all P repo k reply old more = by (is_free reply) (nat_le most_sessions (count_by is_open k.sessions)) (k.next == number_end) where
  by : (free full end : Bool)
      → P (if free then k else known_after (if full then says sessions_full else (if end then says spent else record { reply = opened k.next; effects = opens k.next repo ∷ [] })).effects k).sessions
  by true full end = old
  by false true end = old
  by false false true = old
  by false false false = more

-- ---- a blob is staged
record Refuses (n : ℕ) (t : Turn) : Type 0 where
  pub effects : t.effects ≡ drops n ∷ []
  pub bound : is_free t.reply ≡ false
  pub yard : (yard : Yard) → yard_staged n t.reply yard ≡ yard_after (drops n) yard
  pub kept : (kept : List ℕ) → kept_staged n t.reply kept ≡ kept

abbrev Puts : List ℕ → Blob → Turn → Type 0
Puts path blob t = (m : ℕ) × (t ≡ record { reply = staged; effects = stages m path blob ∷ [] })

no-place : (n : ℕ) → Refuses n (record { reply = no_session; effects = drops n ∷ [] })
no-place n = record { effects = refl; bound = refl; yard = λ y. refl; kept = λ k. refl }

no-room : (n : ℕ) → Refuses n (record { reply = session_full; effects = drops n ∷ [] })
no-room n = record { effects = refl; bound = refl; yard = λ y. refl; kept = λ k. refl }

staged-by : (path : List ℕ) (n : ℕ) (blob : Blob) (found : Option Session) → Puts path blob (stage_in path n blob found) ⊎ Refuses n (stage_in path n blob found)
staged-by path n blob None = inr (no-place n)
staged-by path n blob (Some one) = at (staged_at path one.staged) where
  room : (b : Bool) → let t : Turn = if b then record { reply = staged; effects = stages one.number path blob ∷ [] } else record { reply = session_full; effects = drops n ∷ [] } in
      Puts path blob t ⊎ Refuses n t
  room true = inl (one.number, refl)
  room false = inr (no-room n)

  at : (kept : Option Blob) → Puts path blob (stage_at one path n blob kept) ⊎ Refuses n (stage_at one path n blob kept)
  at None = room (has_room path one.staged)
  at (Some kept) = inr (by (is_same_print kept.print blob.print)) where
    by : (b : Bool) → Refuses n (record { reply = if b then same else taken kept.print blob.print; effects = drops n ∷ [] })
    by true = record { effects = refl; bound = refl; yard = λ y. refl; kept = λ k. refl }
    by false = record { effects = refl; bound = refl; yard = λ y. refl; kept = λ k. refl }

module _ (w : Parts) (at : ℕ) (path : List ℕ) (n : ℕ) (blob : Blob) (among : is_among n w.state.yard.drafts ≡ true) (named : blob.number ≡ n) (reply : Reply) where
  abbrev due_stage : Turn
  due_stage = stage_in path n blob (open_of at w.state)

  stage-turn : turn w.settings w.state w.state.last (stage at path n blob) ≡ due_stage
  stage-turn = if-so (is_among n w.state.yard.drafts) due_stage (says _) (sym among)

  abbrev LeftSo : Turn → Reply → Type 0
  LeftSo t r = record w.state { sessions = (if is_free r then w.state.sessions else sessions_after_all t.effects w.state.sessions); yard = yard_staged n r w.state.yard }
      ≡ with_effects w.state (if is_free r then [] else t.effects)

  left-as-due : (t : Turn) → Puts path blob t ⊎ Refuses n t → LeftSo t t.reply
  left-as-due t (inl puts) =
      subst (λ (u : Turn). LeftSo u u.reply) (sym puts.1)
      (ap (λ m. record w.state { sessions = sessions_after_all (stages puts.0 path blob ∷ []) w.state.sessions; yard = without_draft m w.state.yard }) (sym named))
  left-as-due t (inr refuses) =
      ap (λ b. record w.state { sessions = (if b then w.state.sessions else sessions_after_all t.effects w.state.sessions); yard = yard_staged n t.reply w.state.yard }) refuses.bound
      ∙ ap (λ es. record w.state { sessions = sessions_after_all es w.state.sessions; yard = yard_staged n t.reply w.state.yard }) refuses.effects
      ∙ ap (λ y. record w.state { yard = y }) (refuses.yard w.state.yard)
      ∙ ap (λ es. with_effects w.state es) (sym refuses.effects)
      ∙ ap (λ b. with_effects w.state (if b then [] else t.effects)) (sym refuses.bound)

  pub turned-stage : (sessions : List Session) (yard : Yard) → (reply ≡ due_stage.reply) ⊎ (reply ≡ no_memory)
      → sessions ≡ (if is_free reply then w.state.sessions else sessions_after_all due_stage.effects w.state.sessions) → yard ≡ yard_staged n reply w.state.yard
      → Turned w (record w { state = record w.state { sessions = sessions; yard = yard } }) (stage at path n blob) reply
  turned-stage sessions yard given sessions_is yard_is = record {
    settings = refl;
    calls = refl;
    answered = elim given as (λ _. (reply ≡ (turn w.settings w.state w.state.last (stage at path n blob)).reply) ⊎ ((reply ≡ no_memory) × IsTrue (takes_memory (stage at path n blob)))) [
      | (inl is) ↦ inl (is ∙ ap (λ (t : Turn). t.reply) (sym stage-turn))
      | (inr is) ↦ inr (is, refl)
    ];
    left =
        ap (λ ss. record w.state { sessions = ss; yard = yard }) sessions_is
        ∙ ap (λ y. record w.state { sessions = (if is_free reply then w.state.sessions else sessions_after_all due_stage.effects w.state.sessions); yard = y }) yard_is
        ∙ so given
        ∙ ap (λ (t : Turn). with_effects w.state (if is_free reply then [] else t.effects)) (sym stage-turn);
  } where
    so : (reply ≡ due_stage.reply) ⊎ (reply ≡ no_memory) → LeftSo due_stage reply
    so (inl is) = subst (LeftSo due_stage) (sym is) (left-as-due due_stage (staged-by path n blob (open_of at w.state)))
    so (inr is) = subst (LeftSo due_stage) (sym is) refl

-- ---- the numbers and the files after a blob that was to be staged
pub session-staged : (n : ℕ) (reply : Reply) (yard : Yard) → (yard_staged n reply yard).next_session ≡ yard.next_session
session-staged n staged yard = refl
session-staged n no_memory yard = refl
session-staged n store_fault yard = refl
session-staged n reply yard = refl

pub rows-staged : (n : ℕ) (reply : Reply) (kept : List ℕ) (hosted : List Hosted) → AreInUse kept hosted → AreInUse (kept_staged n reply kept) hosted
rows-staged n staged kept hosted used = all-more kept n hosted used
rows-staged n reply kept hosted used = used

module _ (path : List ℕ) (n : ℕ) (blob : Blob) (named : blob.number ≡ n) (found : Option Session) (reply : Reply)
    (given : (reply ≡ (stage_in path n blob found).reply) ⊎ (reply ≡ no_memory)) where
  abbrev due_in : Turn
  due_in = stage_in path n blob found

  pub files-staged : (kept : List ℕ) (sessions : List Session) → AreStagedInUse kept sessions
      → AreStagedInUse (kept_staged n reply kept) (if is_free reply then sessions else sessions_after_all due_in.effects sessions)
  files-staged kept sessions used = by given where
    as-due : (t : Turn) → Puts path blob t ⊎ Refuses n t → AreStagedInUse (kept_staged n t.reply kept) (if is_free t.reply then sessions else sessions_after_all t.effects sessions)
    as-due t (inl puts) =
        subst (λ (u : Turn). AreStagedInUse (kept_staged n u.reply kept) (if is_free u.reply then sessions else sessions_after_all u.effects sessions)) (sym puts.1)
        (staged-file (with_number n kept) (record { path = path; blob = blob }) (is_open_at puts.0) sessions
        (subst (λ m. IsTrue (is_among m (with_number n kept))) (sym named) (among-new n kept)) (staged-more kept n sessions used))
    as-due t (inr refuses) =
        subst (λ ns. AreStagedInUse ns (if is_free t.reply then sessions else sessions_after_all t.effects sessions)) (sym (refuses.kept kept))
        (subst (λ b. AreStagedInUse kept (if b then sessions else sessions_after_all t.effects sessions)) (sym refuses.bound)
        (subst (λ es. AreStagedInUse kept (sessions_after_all es sessions)) (sym refuses.effects) used))

    by : (reply ≡ due_in.reply) ⊎ (reply ≡ no_memory) → AreStagedInUse (kept_staged n reply kept) (if is_free reply then sessions else sessions_after_all due_in.effects sessions)
    by (inl is) =
        subst (λ r. AreStagedInUse (kept_staged n r kept) (if is_free r then sessions else sessions_after_all due_in.effects sessions)) (sym is) (as-due due_in (staged-by path n blob found))
    by (inr is) = subst (λ r. AreStagedInUse (kept_staged n r kept) (if is_free r then sessions else sessions_after_all due_in.effects sessions)) (sym is) used

  pub next-staged : (free : Bool) (k : Known) → (if free then k else known_after due_in.effects k).next ≡ k.next
  next-staged true k = refl
  next-staged false k = by due_in (staged-by path n blob found) where
    by : (t : Turn) → Puts path blob t ⊎ Refuses n t → (known_after t.effects k).next ≡ k.next
    by t (inl puts) = ap (λ (u : Turn). (known_after u.effects k).next) puts.1
    by t (inr refuses) = ap (λ es. (known_after es k).next) refuses.effects

-- what staging says of a blob's own number is said of the draft
pub staged-given : (path : List ℕ) (n : ℕ) (blob : Blob) → blob.number ≡ n → (found : Option Session) (reply : Reply)
    → (reply ≡ (stage_in path blob.number blob found).reply) ⊎ ((reply ≡ no_memory) × ((stage_in path blob.number blob found).reply ≡ staged))
    → (reply ≡ (stage_in path n blob found).reply) ⊎ (reply ≡ no_memory)
staged-given path n blob named found reply (inl is) = inl (is ∙ ap (λ m. (stage_in path m blob found).reply) named)
staged-given path n blob named found reply (inr so) = inr so.0

pub staged-known : (path : List ℕ) (n : ℕ) (blob : Blob) → blob.number ≡ n → (found : Option Session) (reply : Reply) (k new : Known)
    → new ≡ (if is_free reply then k else known_after (stage_in path blob.number blob found).effects k) → new ≡ (if is_free reply then k else known_after (stage_in path n blob found).effects k)
staged-known path n blob named found reply k new is = is ∙ ap (λ m. if is_free reply then k else known_after (stage_in path m blob found).effects k) named

pub staged-named : (settings : Settings) (at : ℕ) (path : List ℕ) (n : ℕ) (blob : Blob) → IsTrue (meets settings (stage at path n blob)) → blob.number ≡ n
staged-named settings at path n blob met =
    let parts = and_parts (is_file_path path) (is_parcel n blob) met in
    eqb-true blob.number n (and_parts (blob.number == n) (nat_lt blob.print.length number_end) parts.1).0

-- ---- commands of sessions that record nothing
pub may_stage-quiet : (w : Parts) (n : ℕ) (path : List ℕ) → recorded (turn w.settings w.state w.state.last (may_put (session n) path)).effects ≡ []
may_stage-quiet w n path = by (open_of n w.state) where
  by : (found : Option Session) → recorded (may_put_in w.state path found).effects ≡ []
  by None = refl
  by (Some one) = in-quiet path (hosted_of one.repo w.state) (if has_room path one.staged then draws_draft w.state.yard.next_draft else says session_full) (if-quiet (has_room path one.staged) (draws_draft w.state.yard.next_draft) session_full (draws-quiet w.state.yard.next_draft))

pub stage_side-quiet : (w : Parts) (n : ℕ) (path said : List ℕ) → recorded (turn w.settings w.state w.state.last (put_side (session n) path said)).effects ≡ []
stage_side-quiet w n path said = by (open_of n w.state) where
  by : (found : Option Session) → recorded (with_open found (λ (one : Session). judged (kind path) said (λ at. staged_at at one.staged))).effects ≡ []
  by None = refl
  by (Some one) = judges-nothing (kind path) said (λ at. staged_at at one.staged)

pub note-quiet : (w : Parts) (n : ℕ) (path : List ℕ) → recorded (turn w.settings w.state w.state.last (put_doc (session n) path)).effects ≡ []
note-quiet w n path = by (open_of n w.state) where
  by : (found : Option Session) → recorded (with_open found (λ (one : Session). says noted)).effects ≡ []
  by None = refl
  by (Some one) = refl

pub stage-quiet : (w : Parts) (at : ℕ) (path : List ℕ) (n : ℕ) (blob : Blob) → recorded (turn w.settings w.state w.state.last (stage at path n blob)).effects ≡ []
stage-quiet w at path n blob = if-quiet (is_among n w.state.yard.drafts) (stage_in path n blob (open_of at w.state)) no_draft (by (stage_in path n blob (open_of at w.state)) (staged-by path n blob (open_of at w.state))) where
  by : (t : Turn) → Puts path blob t ⊎ Refuses n t → recorded t.effects ≡ []
  by t (inl puts) = ap (λ (u : Turn). recorded u.effects) puts.1
  by t (inr refuses) = ap recorded refuses.effects
