-- The ends of deployment sessions, by a commit or an abort, as turns of the machine.
use native.Mathlib.Omega.{arith}
use Rattle.std.proofs.Common.{◌≡◌, ◌⊎◌, ℕ, Bool, true, false, cond, if◌then◌else◌, List, [], ◌∷◌, map, length, Option, Some, None, inl, inr, refl, sym, ap, ◌∙◌, subst}
use Rattle.std.specs.Prelude.{◌&&◌, IsTrue, bytes_eq, find, is_none, is_some}
use Rattle.std.specs.List.{AllByRecursion, flat_map, list_any}
use Rattle.std.specs.Option.{option_and_then}
use Rattle.std.proofs.lemmas.Bool.{and_parts, false≢true}
use Rattle.deploy_session.specs.Known.{Known, abort_turn, commit_turn, known_after, sessions_after_all}
use Rattle.deploy_session.specs.Shown.{shown_commit}
use Rattle.deploy_session.specs.declared.answers.Commit.{Commit}
use Rattle.deploy_session.specs.declared.answers.Commit.TheVariants.{StoreFault}
use Rattle.ordered_rows.specs.Rows.{rows_after_all}
use Rattle.repo_model.specs.Command.{is_there}
use Rattle.repo_model.specs.Data.{Hosted, Phase, Row, Session, Staged, fading, listed}
use Rattle.repo_model.specs.Deploy.{Offence, deliver_again, deliver_all, deliver_at, discard_all, offence, without_pom}
use Rattle.repo_model.specs.Effect.{Effect, delivers, discards, ends, hosted_after, in_repo, recorded, relists, repo_of, rows_after, with_effects}
use Rattle.repo_model.specs.May.{AllMay}
use Rattle.repo_laws.specs.Sound.{OnePlace}
use Rattle.repo_model.specs.Reply.{ended, is_free, no_session, opened, staged, store_fault}
use Rattle.repo_model.specs.State.{State, change_first, is_open, is_open_at, is_repository, is_session, row_at}
use Rattle.repo_laws.proofs.HoldingLists.{all-push}
use Rattle.repo_laws.proofs.Lists.{found-passes}
use Rattle.repo_laws.proofs.Making.{all-append}
use Rattle.repo_laws.proofs.Orderly.{found-has}
use Rattle.repo_laws.specs.Sound.{IsInOrder}
use Rattle.repo_parts.proofs.HostedLemmas.{lent-rows, lent-still, rows-found, rule-there, with_lent}
use Rattle.repo_model.specs.Settings.{Rule, Settings}
use Rattle.repo_model.specs.Turn.{Turn, abort_of, commit_by, commit_of, says, with_open}
use Rattle.repo_model.specs.declared.session.SessionResult.{SessionResult}
use Rattle.repo_model.specs.declared.session.SessionResult.TheVariants.{Aborted, Done}
use Rattle.repo_parts.specs.Deploys.{AreStagedInUse, commit_in, hosted_after_all}
use Rattle.repo_parts.specs.Hosted.{AreInUse, rows_in, rules_of, with_rows}
use Rattle.repo_parts.specs.Proxies.{AreCachedInUse}
use Rattle.repo_parts.specs.Purge.{AreKeptOnce, condemned_by, kept_without}
use Rattle.repo_parts.proofs.CachedLemmas.{cached-still}
use Rattle.repo_parts.proofs.GarbageLemmas.{IsGoing, covered-then, garbage-once, garbage_of, going-state, next-still, none-cached}
use Rattle.repo_parts.proofs.ListLemmas.{map-change, same-all}
use Rattle.repo_parts.proofs.PurgeLemmas.{rows-twice}
use Rattle.repo_parts.proofs.PutReplies.{rows-by}
use Rattle.repo_parts.proofs.StagedLemmas.{Covers, covered-files, covers}
use Rattle.repo_parts.proofs.UseLemmas.{covered-rows}

-- ---- a session's end
-- the effects of an end: files of a session are given up, delivered or listed again, and it ends
abbrev pub IsEnding : List ℕ → Effect → Type 0
IsEnding repo (delivers n id path blob moment) = id ≡ repo
IsEnding repo (relists id path moment) = id ≡ repo
IsEnding repo (discards n path gone) = Unit {0}
IsEnding repo (ends n result) = Unit {0}
IsEnding repo effect = ⊥

ending-going : (repo : List ℕ) (es : List Effect) → AllByRecursion (IsEnding repo) es → AllByRecursion IsGoing es
ending-going repo [] all = tt
ending-going repo (delivers n id path blob moment ∷ es) all = (tt, ending-going repo es all.1)
ending-going repo (relists id path moment ∷ es) all = (tt, ending-going repo es all.1)
ending-going repo (discards n path gone ∷ es) all = (tt, ending-going repo es all.1)
ending-going repo (ends n result ∷ es) all = (tt, ending-going repo es all.1)
ending-going repo (e ∷ es) all = absurd all.0

-- rows of one repository are changed
module _ (repo : List ℕ) where
  abbrev changed_rows : (List Row → List Row) → List Hosted → List Hosted
  changed_rows f hosted = change_first (is_repository repo) (λ (h : Hosted). record h { rows = f h.rows }) hosted

  first-then : (e : Effect) (es : List Effect) (hosted : List Hosted) → hosted_after e hosted ≡ changed_rows (rows_after e) hosted
      → ((hs : List Hosted) → hosted_after_all es hs ≡ changed_rows (rows_after_all es) hs) → hosted_after_all (e ∷ es) hosted ≡ changed_rows (rows_after_all (e ∷ es)) hosted
  first-then e es hosted here rest = ap (hosted_after_all es) here ∙ rest (changed_rows (rows_after e) hosted) ∙ rows-twice repo (rows_after e) (rows_after_all es) hosted

  ending-rows : (es : List Effect) (hosted : List Hosted) → AllByRecursion (IsEnding repo) es → hosted_after_all es hosted ≡ changed_rows (rows_after_all es) hosted
  ending-rows [] hosted all = sym (same-all (is_repository repo) hosted)
  ending-rows (delivers n id path blob moment ∷ es) hosted all =
      first-then (delivers n id path blob moment) es hosted (ap (λ r. change_first (is_repository r) (λ (h : Hosted). record h { rows = rows_after (delivers n id path blob moment) h.rows }) hosted) all.0) (λ hs. ending-rows es hs all.1)
  ending-rows (relists id path moment ∷ es) hosted all =
      first-then (relists id path moment) es hosted (ap (λ r. change_first (is_repository r) (λ (h : Hosted). record h { rows = rows_after (relists id path moment) h.rows }) hosted) all.0) (λ hs. ending-rows es hs all.1)
  ending-rows (discards n path gone ∷ es) hosted all = ending-rows es hosted all.1
  ending-rows (ends n result ∷ es) hosted all = ending-rows es hosted all.1
  ending-rows (e ∷ es) hosted all = absurd all.0

  -- so the rows of that repository are set
  ending-set : (es : List Effect) (hosted : List Hosted) → AllByRecursion (IsEnding repo) es → with_rows repo (rows_after_all es (rows_in repo hosted)) hosted ≡ hosted_after_all es hosted
  ending-set es hosted all = rows-by repo (rows_after_all es) hosted ∙ sym (ending-rows es hosted all)

-- where nothing is delivered or listed again, the repositories stay as they are
abbrev pub IsGivingUp : Effect → Type 0
IsGivingUp (discards n path gone) = Unit {0}
IsGivingUp (ends n result) = Unit {0}
IsGivingUp effect = ⊥

pub giving-going : (es : List Effect) → AllByRecursion IsGivingUp es → AllByRecursion IsGoing es
giving-going [] all = tt
giving-going (discards n path gone ∷ es) all = (tt, giving-going es all.1)
giving-going (ends n result ∷ es) all = (tt, giving-going es all.1)
giving-going (e ∷ es) all = absurd all.0

giving-rows : (es : List Effect) (hosted : List Hosted) → AllByRecursion IsGivingUp es → hosted_after_all es hosted ≡ hosted
giving-rows [] hosted all = refl
giving-rows (discards n path gone ∷ es) hosted all = giving-rows es hosted all.1
giving-rows (ends n result ∷ es) hosted all = giving-rows es hosted all.1
giving-rows (e ∷ es) hosted all = absurd all.0

-- an abort gives files up
discards-all : (n : ℕ) (files : List Staged) → AllByRecursion IsGivingUp (map (λ (file : Staged). discards n file.path file.blob.number) files)
discards-all n [] = tt
discards-all n (file ∷ files) = (tt, discards-all n files)

abort-by : (one : Session) (how : Option SessionResult) → AllByRecursion IsGivingUp (abort_of one how).effects
abort-by one (Some result) = tt
abort-by one None = all-push IsGivingUp (discard_all one) (ends one.number Aborted) (discards-all one.number one.staged) tt

pub abort-gives : (k : Known) (n : ℕ) → AllByRecursion IsGivingUp (abort_turn k n).effects
abort-gives k n = by (find (is_session n) k.sessions) where
  by : (found : Option Session) → AllByRecursion IsGivingUp (with_open found (λ (one : Session). abort_of one one.ended)).effects
  by None = tt
  by (Some one) = abort-by one one.ended

-- a commit delivers files to the session's repository, lists rows again or gives files up
delivers-at : (one : Session) (now : ℕ) (file : Staged) (found : Option Row) → AllByRecursion (IsEnding one.repo) (deliver_at one now file found)
delivers-at one now file None = (refl, tt)
delivers-at one now file (Some row) = by row.phase where
  by : (phase : Phase) → AllByRecursion (IsEnding one.repo) (deliver_again one now file phase)
  by listed = (tt, tt)
  by (fading since) = (refl, (tt, tt))

delivers-all : (one : Session) (now : ℕ) (rows : List Row) (files : List Staged) → AllByRecursion (IsEnding one.repo) (flat_map (λ (file : Staged). deliver_at one now file (row_at file.path rows)) files)
delivers-all one now rows [] = tt
delivers-all one now rows (file ∷ files) =
    all-append (IsEnding one.repo) (deliver_at one now file (row_at file.path rows)) (flat_map (λ (f : Staged). deliver_at one now f (row_at f.path rows)) files)
    (delivers-at one now file (row_at file.path rows)) (delivers-all one now rows files)

commit-by-all : (one : Session) (now : ℕ) (rows : List Row) (other : Option Offence) (pom : Option (List ℕ)) → AllByRecursion (IsEnding one.repo) (commit_by one now rows other pom).effects
commit-by-all one now rows (Some other) pom = tt
commit-by-all one now rows None (Some directory) = tt
commit-by-all one now rows None None = all-push (IsEnding one.repo) (deliver_all one now rows) (ends one.number (Done (length one.staged))) (delivers-all one now rows one.staged) tt

commit-ends : (one : Session) (now : ℕ) (rows : List Row) (how : Option SessionResult) → AllByRecursion (IsEnding one.repo) (commit_of one now rows how).effects
commit-ends one now rows (Some result) = tt
commit-ends one now rows None = commit-by-all one now rows (offence rows one.staged) (without_pom rows one.staged)

-- ---- which session is meant
module _ (n : ℕ) where
  abbrev pub how : Option Session → Option SessionResult
  how found = option_and_then (λ (one : Session). one.ended) found

  -- where the first of the number has not ended, it is the one that is open
  known-open : (sessions : List Session) → how (find (is_session n) sessions) ≡ None → find (is_session n) sessions ≡ find (is_open_at n) sessions
  known-open [] none = refl
  known-open (one ∷ sessions) none =
      elim (is_session n one)
      as (λ b. how (cond b (Some one) (find (is_session n) sessions)) ≡ None → cond b (Some one) (find (is_session n) sessions) ≡ cond (b && is_open one) (Some one) (find (is_open_at n) sessions)) [
        | true ↦ λ still. sym (ap (λ b. cond b (Some one) (find (is_open_at n) sessions)) (ap is_none still))
        | false ↦ λ still. known-open sessions still
      ] none

-- ---- what an end leaves, unless memory ran out or the records failed
module _ (grace now : ℕ) (s : State) (es : List Effect) (going : AllByRecursion IsGoing es) (may : AllMay grace now s es) (places : OnePlace s) (kept : List ℕ) (used : AreInUse kept s.hosted)
    (staged_so : AreStagedInUse kept s.sessions) where
  abbrev pub garbage_if : Bool → List ℕ
  garbage_if free = if free then [] else garbage_of es

  abbrev pub hosted_if : Bool → List Hosted
  hosted_if free = if free then s.hosted else hosted_after_all es s.hosted

  abbrev pub sessions_if : Bool → List Session
  sessions_if free = if free then s.sessions else sessions_after_all es s.sessions

  abbrev then_covered : Covers (kept_without (garbage_of es) kept) (hosted_after_all es s.hosted) (sessions_after_all es s.sessions)
  then_covered = covered-then grace now es s going may places kept (covers kept s.hosted s.sessions used staged_so)

  pub end-once : (free : Bool) → AreKeptOnce (garbage_if free) kept
  end-once true = tt
  end-once false = garbage-once grace now es s going may places kept (covers kept s.hosted s.sessions used staged_so)

  pub end-rows : (free : Bool) → AreInUse (kept_without (garbage_if free) kept) (hosted_if free)
  end-rows true = used
  end-rows false = covered-rows (kept_without (garbage_of es) kept) (hosted_after_all es s.hosted) (λ n some. then_covered n (omega (arith, some)))

  pub end-cached : AreCachedInUse kept s.proxies → (free : Bool) → AreCachedInUse (kept_without (garbage_if free) kept) s.proxies
  end-cached cached true = cached
  end-cached cached false = cached-still (garbage_of es) kept s.proxies (λ n some. none-cached grace now es s going may places n some) cached

  pub end-files : (free : Bool) → AreStagedInUse (kept_without (garbage_if free) kept) (sessions_if free)
  end-files true = staged_so
  end-files false = covered-files (kept_without (garbage_of es) kept) (sessions_after_all es s.sessions) (λ n some. then_covered n (omega (arith, some)))

  pub end-left : (free : Bool) → record s { hosted = hosted_if free; sessions = sessions_if free; yard = condemned_by (garbage_if free) s.yard } ≡ with_effects s (if free then [] else es)
  end-left true = refl
  end-left false = sym (going-state es s going)

-- an abort leaves the repositories as they are
pub given-hosted : (free : Bool) (es : List Effect) (hosted : List Hosted) → AllByRecursion IsGivingUp es → (if free then hosted else hosted_after_all es hosted) ≡ hosted
given-hosted true es hosted all = refl
given-hosted false es hosted all = giving-rows es hosted all

pub known-if : (free : Bool) (es : List Effect) (k : Known) → (if free then k else known_after es k).sessions ≡ (if free then k.sessions else sessions_after_all es k.sessions)
known-if true es k = refl
known-if false es k = refl

pub next-if : (free : Bool) (es : List Effect) (k : Known) → AllByRecursion IsGoing es → (if free then k else known_after es k).next ≡ k.next
next-if true es k going = refl
next-if false es k going = next-still es k.next going

-- ---- the turn of a commit, by what is known of the session
module _ (n now : ℕ) (sessions : List Session) (hosted : List Hosted) where
  by-found : (found : Option Session) → find (is_session n) sessions ≡ found
      → commit_in n now sessions hosted ≡ with_open found (λ (known : Session). commit_of known now (rows_in known.repo hosted) known.ended)
  by-found found is = ap (λ o. with_open o (λ (known : Session). commit_of known now (rows_in known.repo hosted) known.ended)) is

  module _ (still : None ≡ how n (find (is_session n) sessions)) where
    as-open : find (is_session n) sessions ≡ find (is_open_at n) sessions
    as-open = known-open n sessions (sym still)

    -- none is open
    pub commit-none : find (is_open_at n) sessions ≡ None → commit_in n now sessions hosted ≡ says no_session
    commit-none none = by-found None (as-open ∙ none)

    -- one is open: its repository's rows decide
    module _ (one : Session) (there : find (is_open_at n) sessions ≡ Some one) where
      commit-open : commit_in n now sessions hosted ≡ commit_of one now (rows_in one.repo hosted) one.ended
      commit-open = by-found (Some one) (as-open ∙ there)

      pub commit-same : (k : Known) (old : Hosted) → k.sessions ≡ sessions → find (is_repository one.repo) hosted ≡ Some old → commit_turn k n now old.rows ≡ commit_in n now sessions hosted
      commit-same k old sessions_so here =
          ap (λ ss. with_open (find (is_session n) ss) (λ (known : Session). commit_of known now old.rows known.ended)) sessions_so
          ∙ ap (λ o. with_open o (λ (known : Session). commit_of known now old.rows known.ended)) (as-open ∙ there)
          ∙ ap (λ rs. commit_of one now rs one.ended) (rows-found one.repo hosted old here)
          ∙ sym commit-open

      pub commit-ending : AllByRecursion (IsEnding one.repo) (commit_in n now sessions hosted).effects
      commit-ending = subst (λ (t : Turn). AllByRecursion (IsEnding one.repo) t.effects) (sym commit-open) (commit-ends one now (rows_in one.repo hosted) one.ended)

  -- whatever is known, its effects are those of an end, or there are none
  pub commit-going : AllByRecursion IsGoing (commit_in n now sessions hosted).effects
  commit-going = by (find (is_session n) sessions) where
    by : (found : Option Session) → AllByRecursion IsGoing (with_open found (λ (known : Session). commit_of known now (rows_in known.repo hosted) known.ended)).effects
    by None = tt
    by (Some one) = ending-going one.repo (commit_of one now (rows_in one.repo hosted) one.ended).effects (commit-ends one now (rows_in one.repo hosted) one.ended)

-- the repositories where that of a session comes back from a commit
pub placed : (repo : List ℕ) (es : List Effect) (items : List Hosted) (old new : Hosted) (free : Bool) → AllByRecursion (IsEnding repo) es → find (is_repository repo) items ≡ Some old
    → new ≡ (if free then old else record old { rows = rows_after_all es old.rows }) → with_lent repo items new ≡ (if free then items else hosted_after_all es items)
placed repo es items old new true all here made = lent-still repo items old new here made
placed repo es items old new false all here made =
    lent-rows repo items old new (rows_after_all es old.rows) here made ∙ ap (λ rs. with_rows repo (rows_after_all es rs) items) (rows-found repo items old here) ∙ ending-set repo es items all

-- no effect changes a rule
rules-after : (es : List Effect) (hosted : List Hosted) → rules_of (hosted_after_all es hosted) ≡ rules_of hosted
rules-after [] hosted = refl
rules-after (e ∷ es) hosted =
    rules-after es (hosted_after e hosted)
    ∙ (elim (repo_of e) as (λ at. rules_of (in_repo at (rows_after e) hosted) ≡ rules_of hosted)
    [ None ↦ refl | (Some id) ↦ map-change (λ (h : Hosted). h.rule) (is_repository id) (λ (h : Hosted). record h { rows = rows_after e h.rows }) (λ h. refl) hosted ])

pub rules-if : (free : Bool) (es : List Effect) (hosted : List Hosted) → rules_of (if free then hosted else hosted_after_all es hosted) ≡ rules_of hosted
rules-if true es hosted = refl
rules-if false es hosted = rules-after es hosted

-- what a commit answers is due, or changes nothing; and where the records failed, something was to be recorded
failed-so : (did : Commit) → shown_commit did ≡ store_fault → did ≡ StoreFault
failed-so StoreFault is = refl
failed-so did is = cc

pub commit-given : (t : Turn) (did : Commit) → (shown_commit did ≡ t.reply) ⊎ IsTrue (is_free (shown_commit did)) → (did ≡ StoreFault → recorded t.effects ≡ [] → ⊥)
    → (shown_commit did ≡ t.reply) ⊎ (IsTrue (is_free (shown_commit did)) × (shown_commit did ≡ store_fault → recorded t.effects ≡ [] → ⊥))
commit-given t did (inl is) asked = inl is
commit-given t did (inr free) asked = inr (free, λ is. asked (failed-so did is))

-- the repository of a session that is open is there
pub open-there : (settings : Settings) (n : ℕ) (sessions : List Session) (hosted : List Hosted) (one : Session) → AllByRecursion (IsInOrder settings) sessions → rules_of hosted ≡ settings.hosted
    → find (is_open_at n) sessions ≡ Some one → IsTrue (list_any (is_repository one.repo) hosted)
open-there settings n sessions hosted one ordered rules found =
    let opened : is_open_at n one ≡ true = found-passes (is_open_at n) sessions one found in
    let open_so : is_none one.ended ≡ true = (and_parts (is_session n one) (is_open one) opened).1 in
    let there : is_there one.repo settings ≡ true = (found-has (IsInOrder settings) (is_open_at n) sessions one ordered found).0 (none-so one.ended open_so) in
    rule-there one.repo hosted (subst (λ rs. is_some (find (λ (rule : Rule). bytes_eq rule.id one.repo) rs) ≡ true) (sym rules) there) where
      none-so : (o : Option SessionResult) → is_none o ≡ true → o ≡ None
      none-so None is = refl
      none-so (Some result) is = absurd (false≢true is)
