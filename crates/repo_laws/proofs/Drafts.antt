-- A draft serves once: it stands until a command that names it gives it up, and is never drawn again.
use native.Mathlib.Omega.{arith}
use Rattle.std.proofs.Common.{◌≡◌, ℕ, ◌<◌, Bool, true, false, not, ◌&&◌, ◌||◌, List, [], ◌∷◌, ◌++◌, length, refl, sym, ◌∙◌, ap, subst, eqb-true, Option, None, Some, Result, Ok}
use Rattle.std.specs.Prelude.{◌==◌, IsTrue, if◌then◌else◌, is_some}
use Rattle.std.specs.List.{AllByRecursion, list_any}
use Rattle.std.proofs.lemmas.Bool.{false≢true, ne_eqb, eq-eqb, and_parts, or_left, or_right}
use Rattle.std.proofs.lemmas.List.Folds.{list_any-append}
use Rattle.repo_model.specs.declared.session.SessionResult.TheVariants.{Aborted, Done}
use Rattle.repo_model.specs.Data.{Blob, Row}
use Rattle.repo_model.specs.Settings.{Settings}
use Rattle.repo_model.specs.Paths.{takes}
use Rattle.repo_model.specs.State.{State, rows_of, is_among, row_at, files_of}
use Rattle.repo_model.specs.Effect.{Effect, draws, drops, creates, stages, relists, without_number, with_effect, with_effects, caches, clears_negative, adds_negative}
use Rattle.repo_model.specs.Purge.{expire_all}
use Rattle.repo_model.specs.Command.{Command, put, stage, drop_draft, land, meets, is_fit, is_parcel, rule_of, is_file_path, is_landing, proxy_rule_of}
use Rattle.repo_model.specs.Reply.{draft, no_draft, dropped, is_free, takes_memory, Reply, fetches}
use Rattle.repo_model.specs.Turn.{Turn, turn, unlent, gives_draft_up, lands_file, lands, is_drawn}
use Rattle.repo_model.specs.History.{Entry, IsReply, due, wants_memory, failed, Fits, ticked, commits, effects_of, after, Legal}
use Rattle.repo_laws.specs.Laws.{count_of}
use Rattle.repo_laws.specs.Replies.{uses_draft, leaves_drafts, spends, is_under, GivesDraft}
use Rattle.repo_laws.proofs.Counts.{one_if, count-push, count-filter, count-without_number, none-counts}
use Rattle.repo_laws.proofs.HoldingLists.{any-kept}
use Rattle.repo_laws.proofs.Making.{is_bulk, deploys-made, aborts-made, unlists-made, collects-made}
use Rattle.repo_laws.proofs.Answered.{free-none, reply-determined, state-determined}
use Rattle.repo_laws.proofs.Cases.{Case, lends_file, takes_back, gives_draft, not_drawn, makes_row, has_same, lists_again, has_other, gives_up, gives_nothing_up, opens_one, stage_not_drawn, stage_nowhere, stages_one, stage_full, stage_same, stage_other, deploys, aborts, unlists, collects, turn-case, plans_file, lands_one, lands_late, plans_document}
use Rattle.std.proofs.lemmas.Option.{none-some}
use Rattle.mvn_coords.specs.Kind.{kind}
use Rattle.mvn_coords.specs.declared.kind.Kind.{Kind}
use Rattle.mvn_coords.specs.declared.kind.Kind.TheVariants.{File, Doc}
use Rattle.mvn_coords.specs.declared.fault.PathFault.{PathFault}
use Rattle.mvn_metadata.specs.Document.{Document}
use Rattle.fetch_plan.specs.declared.Plan.{Plan}
use Rattle.fetch_plan.specs.declared.Outcome.TheVariants.{Got, Gone as Missing}
use Rattle.repo_model.specs.Fetched.{Landing, got_file, got_doc}

-- it stands among no drafts once these effects are made
abbrev Gone : ℕ → State → List Effect → Type 0
Gone n s es = count_of n (with_effects s es).yard.drafts ≡ 0

-- the blob that a command sends has its draft's number
of-parcel : (n : ℕ) (blob : Blob) → is_parcel n blob ≡ true → blob.number ≡ n
of-parcel n blob parcel = eqb-true blob.number n (and_parts (blob.number == n) _ parcel).0

module _ (settings : Settings) where
  of-put : (repo path : List ℕ) (n : ℕ) (blob : Blob) → meets settings (put repo path n blob) ≡ true → blob.number ≡ n
  of-put repo path n blob fits = of-parcel n blob (and_parts (is_fit (λ rule. takes rule path) (rule_of repo settings)) (is_parcel n blob) fits).1

  of-stage : (at : ℕ) (path : List ℕ) (n : ℕ) (blob : Blob) → meets settings (stage at path n blob) ≡ true → blob.number ≡ n
  of-stage at path n blob fits = of-parcel n blob (and_parts (is_file_path path) (is_parcel n blob) fits).1

-- a file that lands has the number of its draft
landed-is : (k : Result Kind PathFault) (under : Option ℕ) (n : ℕ) (blob : Blob) → is_landing k under (Got (got_file blob)) ≡ true → under ≡ Some n → blob.number ≡ n
landed-is (Ok (File c)) (Some m) n blob landing is = let same : m ≡ n = cc in of-parcel m blob landing ∙ same
landed-is (Ok (Doc d)) (Some m) n blob landing is = absurd (false≢true landing)
landed-is k under n blob landing is = absurd (false≢true landing)

-- and none lands without one
no-file-under : (k : Result Kind PathFault) (blob : Blob) → is_landing k None (Got (got_file blob)) ≡ true → ⊥
no-file-under (Ok (File c)) blob landing = false≢true landing
no-file-under k blob landing = false≢true landing

-- no document lands under a draft
no-draft-of : (k : Result Kind PathFault) (under : Option ℕ) (n : ℕ) (document : Document) → is_landing k under (Got (got_doc document)) ≡ true → under ≡ Some n → ⊥
no-draft-of k None n document landing is = none-some n is
no-draft-of (Ok (File c)) (Some m) n document landing is = false≢true landing
no-draft-of k (Some m) n document landing is = false≢true landing

under-is : (n : ℕ) (under : Option ℕ) → is_under n under ≡ true → under ≡ Some n
under-is n None is = absurd (false≢true is)
under-is n (Some m) is = ap Some (eqb-true m n is)

-- ---- given up
-- to drop one is never refused
pub draft-dropped : (settings : Settings) (old : State) (e : Entry) (n : ℕ) → Fits settings old e → e.command ≡ drop_draft n → e.reply ≡ dropped
draft-dropped settings old e n fits is_drop = by fits.reply where
  none : commits (drop_draft n) (turn settings old e.moment (drop_draft n)).effects ≡ false
  none = elim (is_among n old.yard.drafts) as (λ b. commits (drop_draft n) (if b then drops n ∷ [] else []) ≡ false) [ true ↦ refl | false ↦ refl ]

  by : IsReply settings old e → e.reply ≡ dropped
  by (due is _) = is ∙ ap (λ c. (turn settings old e.moment c).reply) is_drop
  by (wants_memory is takes _) = absurd (false≢true (ap takes_memory (sym is_drop) ∙ takes))
  by (failed is commits_so _) = absurd (false≢true (sym none ∙ ap (λ c. commits c (turn settings old e.moment c).effects) (sym is_drop) ∙ commits_so))

module _ (settings : Settings) (s : State) (now : ℕ) (t : State) (same : t.yard.drafts ≡ s.yard.drafts) where
  taken-out : (n m : ℕ) → m ≡ n → count_of n (with_effect t (drops m)).yard.drafts ≡ 0
  taken-out n m is = subst (λ k. count_of k (with_effect t (drops m)).yard.drafts ≡ 0) is (count-without_number m t.yard.drafts)

  never : (n m : ℕ) → m ≡ n → is_among m s.yard.drafts ≡ false → count_of n t.yard.drafts ≡ 0
  never n m is none = subst (λ k. count_of k t.yard.drafts ≡ 0) is (ap (count_of m) same ∙ none-counts (λ (k : ℕ). k == m) s.yard.drafts none)

  up-gone : (u : State) (under : Option ℕ) (n : ℕ) → under ≡ Some n → Gone n u (gives_draft_up under)
  up-gone u None n is = absurd (none-some n is)
  up-gone u (Some m) n is = let same : m ≡ n = cc in subst (λ k. count_of k (with_effect u (drops m)).yard.drafts ≡ 0) same (count-without_number m u.yard.drafts)

  file-gone : (plan : Plan) (blob : Blob) (n : ℕ) (found : Option Row) → plan.draft ≡ Some n → blob.number ≡ n → Gone n t (lands_file plan blob now found)
  file-gone plan blob n None is numbered = subst (λ k. count_of k (without_number blob.number t.yard.drafts) ≡ 0) numbered (count-without_number blob.number t.yard.drafts)
  file-gone plan blob n (Some row) is numbered = up-gone (with_effect t (clears_negative plan.proxy plan.path)) plan.draft n is

  lands-gone : (plan : Plan) (outcome : Landing) (n : ℕ) → is_landing (kind plan.path) plan.draft outcome ≡ true → plan.draft ≡ Some n → Gone n t (lands s now plan outcome)
  lands-gone plan (Got (got_file blob)) n landing is = file-gone plan blob n (row_at plan.path (files_of plan.proxy s)) is (landed-is (kind plan.path) plan.draft n blob landing is)
  lands-gone plan (Got (got_doc document)) n landing is = absurd (no-draft-of (kind plan.path) plan.draft n document landing is)
  lands-gone plan Missing n landing is = up-gone (with_effect t (adds_negative plan.proxy plan.path now)) plan.draft n is
  lands-gone plan outcome n landing is = up-gone t plan.draft n is

  late-gone : (under : Option ℕ) (n : ℕ) → under ≡ Some n → is_drawn under s.yard.drafts ≡ false → count_of n t.yard.drafts ≡ 0
  late-gone None n is none = absurd (none-some n is)
  late-gone (Some m) n is none = let alike : m ≡ n = cc in never n m alike none

  case-gone : (c : Command) (u : Turn) (n : ℕ) → Case settings s now c u → meets settings c ≡ true → uses_draft n c ≡ true → Gone n t u.effects
  case-gone c u n (not_drawn repo path m blob none) fits used = never n m (eqb-true m n used) none
  case-gone c u n (makes_row repo path m blob among free) fits used =
      subst (λ k. count_of k (with_effect t (creates repo path blob now)).yard.drafts ≡ 0) (of-put settings repo path m blob fits ∙ eqb-true m n used) (count-without_number blob.number t.yard.drafts)
  case-gone c u n (has_same repo path m blob among) fits used = taken-out n m (eqb-true m n used)
  case-gone c u n (lists_again repo path m blob among row since found phase_is) fits used =
      subst (λ k. Gone k t (relists repo path now ∷ drops m ∷ [])) (eqb-true m n used) (count-without_number m t.yard.drafts)
  case-gone c u n (has_other repo path m blob kept among) fits used = taken-out n m (eqb-true m n used)
  case-gone c u n (gives_up m among) fits used = taken-out n m (eqb-true m n used)
  case-gone c u n (gives_nothing_up m none) fits used = never n m (eqb-true m n used) none
  case-gone c u n (stage_not_drawn at path m blob none) fits used = never n m (eqb-true m n used) none
  case-gone c u n (stage_nowhere at path m blob among) fits used = taken-out n m (eqb-true m n used)
  case-gone c u n (stages_one at path m blob one among known free room) fits used =
      subst (λ k. count_of k (with_effect t (stages one.number path blob)).yard.drafts ≡ 0) (of-stage settings at path m blob fits ∙ eqb-true m n used) (count-without_number blob.number t.yard.drafts)
  case-gone c u n (stage_full at path m blob among) fits used = taken-out n m (eqb-true m n used)
  case-gone c u n (stage_same at path m blob among) fits used = taken-out n m (eqb-true m n used)
  case-gone c u n (stage_other at path m blob kept among) fits used = taken-out n m (eqb-true m n used)
  case-gone c u n (lands_one plan outcome drawn) fits used =
      lands-gone plan outcome n (and_parts (is_some (proxy_rule_of plan.proxy settings)) (is_landing (kind plan.path) plan.draft outcome) fits).1 (under-is n plan.draft used)
  case-gone c u n (lands_late plan outcome none) fits used = late-gone plan.draft n (under-is n plan.draft used) none
  case-gone c u n case fits used = absurd (false≢true used)

module _ (settings : Settings) (old : State) (e : Entry) where
  gone-by : (n : ℕ) → Fits settings old e → uses_draft n e.command ≡ true → is_free e.reply ≡ false → count_of n (after settings old e).yard.drafts ≡ 0
  gone-by n fits used bound =
      ap (λ (t : State). count_of n t.yard.drafts) (state-determined settings old e bound)
      ∙ case-gone settings old e.moment (ticked old e.moment e.faults) refl e.command (turn settings old e.moment e.command) n (turn-case settings old e.moment e.command) fits.condition used

  pub drafts-put : (repo path : List ℕ) (n : ℕ) (blob : Blob) → Fits settings old e → e.command ≡ put repo path n blob → is_free e.reply ≡ false
      → count_of n (after settings old e).yard.drafts ≡ 0
  drafts-put repo path n blob fits is bound = gone-by n fits (ap (uses_draft n) is ∙ eq-eqb n n refl) bound

  pub drafts-staged : (at : ℕ) (path : List ℕ) (n : ℕ) (blob : Blob) → Fits settings old e → e.command ≡ stage at path n blob → is_free e.reply ≡ false
      → count_of n (after settings old e).yard.drafts ≡ 0
  drafts-staged at path n blob fits is bound = gone-by n fits (ap (uses_draft n) is ∙ eq-eqb n n refl) bound

  pub drafts-landed : (plan : Plan) (outcome : Landing) (n : ℕ) → Fits settings old e → e.command ≡ land plan outcome → is_under n plan.draft ≡ true → is_free e.reply ≡ false
      → count_of n (after settings old e).yard.drafts ≡ 0
  drafts-landed plan outcome n fits is under bound = gone-by n fits (ap (uses_draft n) is ∙ under) bound

  pub drafts-dropped : (n : ℕ) → Fits settings old e → e.command ≡ drop_draft n → count_of n (after settings old e).yard.drafts ≡ 0
  drafts-dropped n fits is = gone-by n fits (ap (uses_draft n) is ∙ eq-eqb n n refl) (ap is_free (draft-dropped settings old e n fits is))

-- a number that is drawn and no draft any more is none later
gone-stays : (s : State) (e : Effect) (n : ℕ) → (n < s.yard.next_draft) × (count_of n s.yard.drafts ≡ 0) → (n < (with_effect s e).yard.next_draft) × (count_of n (with_effect s e).yard.drafts ≡ 0)
gone-stays s draws n gone =
    let other : (s.yard.next_draft == n) ≡ false = ne_eqb s.yard.next_draft n (λ same. omega (arith, same, gone.0)) in
    let zero : one_if (s.yard.next_draft == n) ≡ 0 = ap one_if other in
    (omega (arith, gone.0), omega (arith, count-push (λ m. m == n) s.yard.drafts s.yard.next_draft, zero, gone.1))
gone-stays s (drops m) n gone = (gone.0, omega (arith, count-filter (λ k. k == n) (λ k. not (k == m)) s.yard.drafts, gone.1))
gone-stays s (creates repo path blob moment) n gone = (gone.0, omega (arith, count-filter (λ k. k == n) (λ k. not (k == blob.number)) s.yard.drafts, gone.1))
gone-stays s (stages m path blob) n gone = (gone.0, omega (arith, count-filter (λ k. k == n) (λ k. not (k == blob.number)) s.yard.drafts, gone.1))
gone-stays s (caches id path blob moment) n gone = (gone.0, omega (arith, count-filter (λ k. k == n) (λ k. not (k == blob.number)) s.yard.drafts, gone.1))
gone-stays s e n gone = gone

all-gone : (es : List Effect) (s : State) (n : ℕ) → (n < s.yard.next_draft) × (count_of n s.yard.drafts ≡ 0) → (n < (with_effects s es).yard.next_draft) × (count_of n (with_effects s es).yard.drafts ≡ 0)
all-gone [] s n gone = gone
all-gone (e ∷ es) s n gone = all-gone es (with_effect s e) n (gone-stays s e n gone)

pub drafts-gone : (settings : Settings) (old : State) (e : Entry) (n : ℕ) → n < old.yard.next_draft → count_of n old.yard.drafts ≡ 0
    → (n < (after settings old e).yard.next_draft) × (count_of n (after settings old e).yard.drafts ≡ 0)
drafts-gone settings old e n drawn none = all-gone (effects_of settings old e) (ticked old e.moment e.faults) n (drawn, none)

-- ---- kept
-- an effect takes a draft from where it stands
abbrev takes_draft : ℕ → Effect → Bool
takes_draft n (drops m) = m == n
takes_draft n (creates repo path blob moment) = blob.number == n
takes_draft n (stages at path blob) = blob.number == n
takes_draft n (caches id path blob moment) = blob.number == n
takes_draft n e = false

abbrev Untaken : ℕ → Effect → Type 0
Untaken n e = takes_draft n e ≡ false

stays-among : (n m : ℕ) (ns : List ℕ) → (m == n) ≡ false → is_among n ns ≡ true → is_among n (without_number m ns) ≡ true
stays-among n m ns other =
    any-kept (λ k. k == n) (λ k. not (k == m)) (λ k is. ap not (ap (λ i. i == m) (eqb-true k n is) ∙ ne_eqb n m (λ same. false≢true (sym other ∙ eq-eqb m n (sym same))))) ns

still : (s : State) (e : Effect) (n : ℕ) → Untaken n e → is_among n s.yard.drafts ≡ true → is_among n (with_effect s e).yard.drafts ≡ true
still s draws n untaken among =
    list_any-append (λ m. m == n) s.yard.drafts (s.yard.next_draft ∷ []) ∙ or_left (is_among n s.yard.drafts) (is_among n (s.yard.next_draft ∷ [])) among
still s (drops m) n untaken among = stays-among n m s.yard.drafts untaken among
still s (creates repo path blob moment) n untaken among = stays-among n blob.number s.yard.drafts untaken among
still s (stages at path blob) n untaken among = stays-among n blob.number s.yard.drafts untaken among
still s (caches id path blob moment) n untaken among = stays-among n blob.number s.yard.drafts untaken among
still s e n untaken among = among

all-still : (es : List Effect) (s : State) (n : ℕ) → AllByRecursion (Untaken n) es → is_among n s.yard.drafts ≡ true → is_among n (with_effects s es).yard.drafts ≡ true
all-still [] s n untaken among = among
all-still (e ∷ es) s n untaken among = all-still es (with_effect s e) n untaken.1 (still s e n untaken.0 among)

many-untaken : (n : ℕ) (e : Effect) → is_bulk e ≡ true → Untaken n e
many-untaken n (drops m) is = absurd (false≢true is)
many-untaken n (creates repo path blob moment) is = absurd (false≢true is)
many-untaken n (stages at path blob) is = absurd (false≢true is)
many-untaken n (caches id path blob moment) is = absurd (false≢true is)
many-untaken n e is = refl

-- what lands takes no draft but its own
other-up : (n : ℕ) (under : Option ℕ) → is_under n under ≡ false → AllByRecursion (Untaken n) (gives_draft_up under)
other-up n None other = tt
other-up n (Some m) other = (other, tt)

other-file : (n now : ℕ) (plan : Plan) (blob : Blob) (found : Option Row) → is_under n plan.draft ≡ false → (blob.number == n) ≡ false → AllByRecursion (Untaken n) (lands_file plan blob now found)
other-file n now plan blob None other numbered = (numbered, (refl, tt))
other-file n now plan blob (Some row) other numbered = (refl, other-up n plan.draft other)

other-number : (k : Result Kind PathFault) (under : Option ℕ) (n : ℕ) (blob : Blob) → is_landing k under (Got (got_file blob)) ≡ true → is_under n under ≡ false → (blob.number == n) ≡ false
other-number k None n blob landing other = absurd (no-file-under k blob landing)
other-number k (Some m) n blob landing other = ap (λ i. i == n) (landed-is k (Some m) m blob landing refl) ∙ other

other-lands : (n : ℕ) (s : State) (now : ℕ) (plan : Plan) (outcome : Landing) → is_landing (kind plan.path) plan.draft outcome ≡ true → is_under n plan.draft ≡ false → AllByRecursion (Untaken n) (lands s now plan outcome)
other-lands n s now plan (Got (got_file blob)) landing other =
    other-file n now plan blob (row_at plan.path (files_of plan.proxy s)) other (other-number (kind plan.path) plan.draft n blob landing other)
other-lands n s now plan (Got (got_doc document)) landing other = (refl, (refl, tt))
other-lands n s now plan Missing landing other = (refl, other-up n plan.draft other)
other-lands n s now plan outcome landing other = other-up n plan.draft other

unused : (b : Bool) → (b && true) ≡ false → b ≡ false
unused true is = is
unused false is = refl

module _ (settings : Settings) (s : State) (now : ℕ) where
  case-untaken : (c : Command) (u : Turn) (n : ℕ) → Case settings s now c u → meets settings c ≡ true → (uses_draft n c && not (leaves_drafts u.reply)) ≡ false → AllByRecursion (Untaken n) u.effects
  case-untaken c u n (lends_file repo path tried blob more is) fits unspent = (refl, tt)
  case-untaken c u n (plans_file repo path tried member rule at more is) fits unspent = (refl, tt)
  case-untaken c u n (takes_back lease) fits unspent = (refl, tt)
  case-untaken c u n (gives_draft place path more) fits unspent = (refl, tt)
  case-untaken c u n (makes_row repo path m blob among free) fits unspent = (ap (λ k. k == n) (of-put settings repo path m blob fits) ∙ unused (m == n) unspent, tt)
  case-untaken c u n (has_same repo path m blob among) fits unspent = (unused (m == n) unspent, tt)
  case-untaken c u n (lists_again repo path m blob among row since found phase_is) fits unspent = (refl, (unused (m == n) unspent, tt))
  case-untaken c u n (has_other repo path m blob kept among) fits unspent = (unused (m == n) unspent, tt)
  case-untaken c u n (gives_up m among) fits unspent = (unused (m == n) unspent, tt)
  case-untaken c u n (opens_one repo more few) fits unspent = (refl, tt)
  case-untaken c u n (stage_nowhere at path m blob among) fits unspent = (unused (m == n) unspent, tt)
  case-untaken c u n (stages_one at path m blob one among known free room) fits unspent = (ap (λ k. k == n) (of-stage settings at path m blob fits) ∙ unused (m == n) unspent, tt)
  case-untaken c u n (stage_full at path m blob among) fits unspent = (unused (m == n) unspent, tt)
  case-untaken c u n (stage_same at path m blob among) fits unspent = (unused (m == n) unspent, tt)
  case-untaken c u n (stage_other at path m blob kept among) fits unspent = (unused (m == n) unspent, tt)
  case-untaken c u n (deploys m one is going) fits unspent = deploys-made (Untaken n) (many-untaken n) one now (rows_of one.repo s) (Done (length one.staged))
  case-untaken c u n (aborts m one is going) fits unspent = aborts-made (Untaken n) (many-untaken n) one Aborted
  case-untaken c u n (unlists repo h is) fits unspent = unlists-made (Untaken n) (many-untaken n) h now
  case-untaken c u n collects fits unspent =
      collects-made (Untaken n) (many-untaken n) settings.grace now s.hosted (unlent (with_effects s (expire_all settings.grace now s.hosted)).yard) refl
  case-untaken c u n (lands_one plan outcome drawn) fits unspent =
      other-lands n s now plan outcome (and_parts (is_some (proxy_rule_of plan.proxy settings)) (is_landing (kind plan.path) plan.draft outcome) fits).1 (unused (is_under n plan.draft) unspent)
  case-untaken c u n case fits unspent = tt

  -- a draft that is given stands
  case-given : (c : Command) (u : Turn) (n faults : ℕ) → Case settings s now c u → GivesDraft n u.reply → is_among n (with_effects (ticked s now faults) u.effects).yard.drafts ≡ true
  case-given c u n faults (gives_draft place path more) is =
      let same : s.yard.next_draft ≡ n = is in
      list_any-append (λ m. m == n) s.yard.drafts (s.yard.next_draft ∷ [])
      ∙ or_right (is_among n s.yard.drafts) (is_among n (s.yard.next_draft ∷ [])) (or_left (s.yard.next_draft == n) false (eq-eqb s.yard.next_draft n same))
  case-given c u n faults (plans_file repo path tried member rule at more found) is =
      let drawn : Some s.yard.next_draft ≡ Some n = is in
      let same : s.yard.next_draft ≡ n = cc in
      list_any-append (λ m. m == n) s.yard.drafts (s.yard.next_draft ∷ [])
      ∙ or_right (is_among n s.yard.drafts) (is_among n (s.yard.next_draft ∷ [])) (or_left (s.yard.next_draft == n) false (eq-eqb s.yard.next_draft n same))
  case-given c u n faults (plans_document repo path tried member rule at found) is = absurd (none-some n is)
  case-given c u n faults case is = absurd is

  -- a command that is answered that its draft is none, names none
  case-none : (c : Command) (u : Turn) (n : ℕ) → Case settings s now c u → u.reply ≡ no_draft → uses_draft n c ≡ true → is_among n s.yard.drafts ≡ false
  case-none c u n (not_drawn repo path m blob none) is used = ap (λ k. is_among k s.yard.drafts) (sym (eqb-true m n used)) ∙ none
  case-none c u n (stage_not_drawn at path m blob none) is used = ap (λ k. is_among k s.yard.drafts) (sym (eqb-true m n used)) ∙ none
  case-none c u n (lands_late plan outcome none) is used = subst (λ under. is_drawn under s.yard.drafts ≡ false) (under-is n plan.draft used) none
  case-none c u n case is used = absurd (cc)

given-bound : (n : ℕ) (r : Reply) → GivesDraft n r → is_free r ≡ false
given-bound n (draft m) gives = refl
given-bound n (fetches plan) gives = refl
given-bound n r gives = absurd gives

module _ (settings : Settings) (old : State) (e : Entry) (n : ℕ) (fits : Fits settings old e) where
  pub drafts-kept : is_among n old.yard.drafts ≡ true → spends n e ≡ false → is_among n (after settings old e).yard.drafts ≡ true
  drafts-kept among unspent =
      elim (is_free e.reply) as (λ b. is_free e.reply ≡ b → is_among n (after settings old e).yard.drafts ≡ true) [
        | true ↦ λ free. subst (λ es. is_among n (with_effects (ticked old e.moment e.faults) es).yard.drafts ≡ true) (sym (free-none settings old e free)) among
        | false ↦ λ bound.
            let unspent_so = subst (λ r. (uses_draft n e.command && not (leaves_drafts r)) ≡ false) (reply-determined settings old e fits bound) unspent in
            let u : Turn = turn settings old e.moment e.command in
            subst (λ (t : State). is_among n t.yard.drafts ≡ true) (sym (state-determined settings old e bound))
            (all-still u.effects (ticked old e.moment e.faults) n
            (case-untaken settings old e.moment e.command u n (turn-case settings old e.moment e.command) fits.condition unspent_so) among)
      ] refl

  given-stands : GivesDraft n e.reply → is_among n (after settings old e).yard.drafts ≡ true
  given-stands is =
      let bound : is_free e.reply ≡ false = given-bound n e.reply is in
      subst (λ (t : State). is_among n t.yard.drafts ≡ true) (sym (state-determined settings old e bound))
      (case-given settings old e.moment e.command (turn settings old e.moment e.command) n e.faults (turn-case settings old e.moment e.command) (subst (GivesDraft n) (reply-determined settings old e fits bound) is))

  asked-none : e.reply ≡ no_draft → uses_draft n e.command ≡ true → is_among n old.yard.drafts ≡ false
  asked-none is used =
      case-none settings old e.moment e.command (turn settings old e.moment e.command) n (turn-case settings old e.moment e.command)
      (sym (reply-determined settings old e fits (ap is_free is)) ∙ is) used

module _ (settings : Settings) (asked : Entry) (n : ℕ) (used : uses_draft n asked.command ≡ true) (none : asked.reply ≡ no_draft) where
  spent-by : (between : List Entry) (s : State) → Legal settings s (between ++ asked ∷ []) → is_among n s.yard.drafts ≡ true → list_any (spends n) between ≡ true
  spent-by [] s legal among = absurd (false≢true (sym (asked-none settings s asked n legal.0 none used) ∙ among))
  spent-by (e ∷ between) s legal among =
      elim (spends n e) as (λ b. spends n e ≡ b → (b || list_any (spends n) between) ≡ true) [
        | true ↦ λ _. refl
        | false ↦ λ unspent. spent-by between (after settings s e) legal.1 (drafts-kept settings s e n legal.0 among unspent)
      ] refl

pub drafts-spent_between : (settings : Settings) (old : State) (given asked : Entry) (between : List Entry) (n : ℕ) → Legal settings old (given ∷ between ++ asked ∷ [])
    → GivesDraft n given.reply → IsTrue (uses_draft n asked.command) → asked.reply ≡ no_draft → IsTrue (list_any (spends n) between)
drafts-spent_between settings old given asked between n legal is used none =
    spent-by settings asked n used none between (after settings old given) legal.1 (given-stands settings old given n legal.0 is)
