-- What all effects but a few have, the effects of each turn have: only Done returns a lease, and only Collect forgets garbage.
use Rattle.std.proofs.Common.{◌≡◌, ℕ, Bool, true, false, List, [], ◌∷◌, ◌++◌, length, Option, Some, None, refl, ap}
use Rattle.std.specs.Prelude.{filter}
use Rattle.std.specs.List.{AllByRecursion, flat_map}
use Rattle.std.proofs.lemmas.Bool.{false≢true}
use Rattle.repo_model.specs.declared.session.SessionResult.{SessionResult}
use Rattle.repo_model.specs.declared.session.SessionResult.TheVariants.{Aborted, Done}
use Rattle.repo_model.specs.Data.{Blob, Row, Phase, listed, fading, Hosted, Staged, Session}
use Rattle.fetch_plan.specs.declared.Plan.{Plan}
use Rattle.fetch_plan.specs.declared.Outcome.TheVariants.{Got, Gone}
use Rattle.repo_model.specs.Fetched.{Landing, got_file, got_doc}
use Rattle.repo_model.specs.Settings.{Settings}
use Rattle.repo_model.specs.State.{State, row_at, rows_of, files_of}
use Rattle.repo_model.specs.Effect.{Effect, draws, drops, creates, stages, delivers, discards, relists, fades, expires, forgets, lends, returns, opens, ends, caches, keeps_doc, adds_negative, clears_negative, with_effects}
use Rattle.repo_model.specs.Command.{Command, done, collect, land}
use Rattle.repo_model.specs.Purge.{due_rows, fade_all, expire_all, expired_of, is_over, most_rows}
use Rattle.repo_model.specs.Deploy.{deliver_at, deliver_again, deliver_all, discard_all}
use Rattle.repo_model.specs.Turn.{Turn, turn, unlent, gives_draft_up, lands_file, lands}
use Rattle.repo_laws.proofs.Cases.{Case, lends_file, plans_file, lands_one, takes_back, gives_draft, makes_row, has_same, lists_again, has_other, gives_up, opens_one, stage_nowhere, stages_one, stage_full, stage_same, stage_other, deploys, aborts, unlists, collects, turn-case}
use Rattle.repo_laws.proofs.HoldingLists.{all-flat, all-map}
use Rattle.repo_laws.proofs.Lists.{all-take}
pub use Rattle.repo_laws.proofs.HoldingLists.{all-join as all-append}

-- what goes and comes of rows: of each repository those whose grace is over
pub expired-all : (R : Effect → Type 0) → ((repo path : List ℕ) (blob : ℕ) → R (expires repo path blob)) → (grace now : ℕ) (hosted : List Hosted) → AllByRecursion R (expire_all grace now hosted)
expired-all R so grace now hosted =
    all-take R most_rows (flat_map (expired_of grace now) hosted)
    (all-flat R (expired_of grace now)
    (λ h. all-map (λ (row : Row). expires h.rule.id row.path row.blob.number) R (λ row. so h.rule.id row.path row.blob.number) (filter (λ (row : Row). is_over grace now row.phase) h.rows)) hosted)

-- the effects of a landing, but for the file that it keeps
abbrev pub is_left : Effect → Bool
is_left (drops n) = true
is_left (keeps_doc id path document moment) = true
is_left (adds_negative id path moment) = true
is_left (clears_negative id path) = true
is_left e = false

module _ (R : Effect → Type 0) (left : (e : Effect) → is_left e ≡ true → R e) where
  draft-made : (under : Option ℕ) → AllByRecursion R (gives_draft_up under)
  draft-made None = tt
  draft-made (Some n) = (left (drops n) refl, tt)

  file-made : (plan : Plan) (blob : Blob) (now : ℕ) (found : Option Row) → R (caches plan.proxy plan.path blob now) → AllByRecursion R (lands_file plan blob now found)
  file-made plan blob now None cached = (cached, (left (clears_negative plan.proxy plan.path) refl, tt))
  file-made plan blob now (Some row) cached = (left (clears_negative plan.proxy plan.path) refl, draft-made plan.draft)

  pub lands-made : (s : State) (now : ℕ) (plan : Plan) (outcome : Landing) → ((blob : Blob) → outcome ≡ Got (got_file blob) → R (caches plan.proxy plan.path blob now)) → AllByRecursion R (lands s now plan outcome)
  lands-made s now plan (Got (got_file blob)) cached = file-made plan blob now (row_at plan.path (files_of plan.proxy s)) (cached blob refl)
  lands-made s now plan (Got (got_doc document)) cached = (left (keeps_doc plan.proxy plan.path _ now) refl, (left (clears_negative plan.proxy plan.path) refl, tt))
  lands-made s now plan Gone cached = (left (adds_negative plan.proxy plan.path now) refl, draft-made plan.draft)
  lands-made s now plan outcome cached = draft-made plan.draft

-- the effects that a turn makes of a list of files or of rows
abbrev pub is_bulk : Effect → Bool
is_bulk (delivers n repo path blob moment) = true
is_bulk (discards n path draft) = true
is_bulk (relists repo path moment) = true
is_bulk (fades repo path moment) = true
is_bulk (expires repo path blob) = true
is_bulk (ends n result) = true
is_bulk e = false

module _ (R : Effect → Type 0) (bulk : (e : Effect) → is_bulk e ≡ true → R e) where
  delivered : (one : Session) (now : ℕ) (f : Staged) (found : Option Row) → AllByRecursion R (deliver_at one now f found)
  delivered one now f None = (bulk (delivers one.number one.repo f.path f.blob now) refl, tt)
  delivered one now f (Some row) = again row.phase where
    again : (phase : Phase) → AllByRecursion R (deliver_again one now f phase)
    again listed = (bulk (discards one.number f.path f.blob.number) refl, tt)
    again (fading since) = (bulk (relists one.repo f.path now) refl, (bulk (discards one.number f.path f.blob.number) refl, tt))

  -- what a commit, an abort, an unlisting and a Collect make
  pub deploys-made : (one : Session) (now : ℕ) (rows : List Row) (result : SessionResult) → AllByRecursion R (deliver_all one now rows ++ ends one.number result ∷ [])
  deploys-made one now rows result =
      all-append R (deliver_all one now rows) (ends one.number result ∷ [])
      (all-flat R (λ (f : Staged). deliver_at one now f (row_at f.path rows)) (λ f. delivered one now f (row_at f.path rows)) one.staged) (bulk (ends one.number result) refl, tt)

  pub aborts-made : (one : Session) (result : SessionResult) → AllByRecursion R (discard_all one ++ ends one.number result ∷ [])
  aborts-made one result =
      all-append R (discard_all one) (ends one.number result ∷ [])
      (all-map (λ (f : Staged). discards one.number f.path f.blob.number) R (λ f. bulk (discards one.number f.path f.blob.number) refl) one.staged) (bulk (ends one.number result) refl, tt)

  pub unlists-made : (h : Hosted) (now : ℕ) → AllByRecursion R (fade_all h now)
  unlists-made h now = all-map (λ (row : Row). fades h.rule.id row.path now) R (λ row. bulk (fades h.rule.id row.path now) refl) (due_rows h.rule now h.rows)

  pub collects-made : (grace now : ℕ) (hosted : List Hosted) (blobs : List ℕ) → R (forgets blobs) → AllByRecursion R (expire_all grace now hosted ++ forgets blobs ∷ [])
  collects-made grace now hosted blobs forgets_so =
      all-append R (expire_all grace now hosted) (forgets blobs ∷ []) (expired-all R (λ repo path blob. bulk (expires repo path blob) refl) grace now hosted) (forgets_so, tt)

-- each effect, but for those of one command alone: a lease is returned, garbage forgotten, a file kept
abbrev pub is_common : Effect → Bool
is_common (returns lease) = false
is_common (forgets blobs) = false
is_common (caches id path blob moment) = false
is_common e = true

left-common : (e : Effect) → is_left e ≡ true → is_common e ≡ true
left-common (returns lease) is = absurd (false≢true is)
left-common (forgets blobs) is = absurd (false≢true is)
left-common (caches id path blob moment) is = absurd (false≢true is)
left-common e is = refl

bulk-common : (e : Effect) → is_bulk e ≡ true → is_common e ≡ true
bulk-common (returns lease) is = absurd (false≢true is)
bulk-common (forgets blobs) is = absurd (false≢true is)
bulk-common (caches id path blob moment) is = absurd (false≢true is)
bulk-common e is = refl

module _ (R : Effect → Type 0) (common : (e : Effect) → is_common e ≡ true → R e) where
  left-of : (e : Effect) → is_left e ≡ true → R e
  left-of e is = common e (left-common e is)

  bulk-of : (e : Effect) → is_bulk e ≡ true → R e
  bulk-of e is = common e (bulk-common e is)

  module _ (settings : Settings) (s : State) (now : ℕ) where
    case-makes : (c : Command) (t : Turn) → Case settings s now c t → ((lease : ℕ) → c ≡ done lease → R (returns lease)) → ((blobs : List ℕ) → c ≡ collect → R (forgets blobs))
        → ((plan : Plan) (blob : Blob) → c ≡ land plan (Got (got_file blob)) → R (caches plan.proxy plan.path blob now)) → AllByRecursion R t.effects
    case-makes c t (lends_file repo path tried blob more is) returned forgotten cached = (common (lends blob.number) refl, tt)
    case-makes c t (plans_file repo path tried member rule at more is) returned forgotten cached = (common draws refl, tt)
    case-makes c t (lands_one plan outcome drawn) returned forgotten cached = lands-made R left-of s now plan outcome (λ blob is. cached plan blob (ap (land plan) is))
    case-makes c t (takes_back lease) returned forgotten cached = (returned lease refl, tt)
    case-makes c t (gives_draft place path more) returned forgotten cached = (common draws refl, tt)
    case-makes c t (makes_row repo path n blob among free) returned forgotten cached = (common (creates repo path blob now) refl, tt)
    case-makes c t (has_same repo path n blob among) returned forgotten cached = (common (drops n) refl, tt)
    case-makes c t (lists_again repo path n blob among row since found phase_is) returned forgotten cached = (common (relists repo path now) refl, (common (drops n) refl, tt))
    case-makes c t (has_other repo path n blob kept among) returned forgotten cached = (common (drops n) refl, tt)
    case-makes c t (gives_up n among) returned forgotten cached = (common (drops n) refl, tt)
    case-makes c t (opens_one repo more few) returned forgotten cached = (common (opens s.yard.next_session repo) refl, tt)
    case-makes c t (stage_nowhere at path n blob among) returned forgotten cached = (common (drops n) refl, tt)
    case-makes c t (stages_one at path n blob one among known free room) returned forgotten cached = (common (stages one.number path blob) refl, tt)
    case-makes c t (stage_full at path n blob among) returned forgotten cached = (common (drops n) refl, tt)
    case-makes c t (stage_same at path n blob among) returned forgotten cached = (common (drops n) refl, tt)
    case-makes c t (stage_other at path n blob kept among) returned forgotten cached = (common (drops n) refl, tt)
    case-makes c t (deploys n one is going) returned forgotten cached = deploys-made R bulk-of one now (rows_of one.repo s) (Done (length one.staged))
    case-makes c t (aborts n one is going) returned forgotten cached = aborts-made R bulk-of one Aborted
    case-makes c t (unlists repo h is) returned forgotten cached = unlists-made R bulk-of h now
    case-makes c t collects returned forgotten cached =
        let blobs = unlent (with_effects s (expire_all settings.grace now s.hosted)).yard in
        collects-made R bulk-of settings.grace now s.hosted blobs (forgotten blobs refl)
    case-makes c t case returned forgotten cached = tt

    -- the effects of a turn
    pub turn-makes : (c : Command) → ((lease : ℕ) → c ≡ done lease → R (returns lease)) → ((blobs : List ℕ) → c ≡ collect → R (forgets blobs))
        → ((plan : Plan) (blob : Blob) → c ≡ land plan (Got (got_file blob)) → R (caches plan.proxy plan.path blob now)) → AllByRecursion R (turn settings s now c).effects
    turn-makes c = case-makes c (turn settings s now c) (turn-case settings s now c)
