-- What a course holds stands in the yard beside what stood before it, entry by entry.
use Rattle.std.proofs.Common.{◌≡◌, ◌≢◌, ℕ, ◌<◌, ◌≤◌, ◌==◌, ◌&&◌, Bool, true, false, not, if◌then◌else◌, List, [], ◌∷◌, ◌++◌, filter, Option, Some, None, ap, arith, refl, sym, subst, ◌∙◌, IsTrue}
use Rattle.std.specs.Prelude.{is_some, Result, Ok}
use Rattle.std.specs.List.{AllByRecursion}
use Rattle.std.proofs.lemmas.Bool.{false≢true, and_parts, eq-eqb, eqb-true, ne_eqb, or_right}
use Rattle.fetch_plan.specs.declared.Outcome.TheVariants as came
use Rattle.mvn_coords.specs.Kind.{kind}
use Rattle.mvn_coords.specs.declared.fault.PathFault.{PathFault}
use Rattle.mvn_coords.specs.declared.kind.Kind.{Kind}
use Rattle.mvn_coords.specs.declared.kind.Kind.TheVariants.{File, Doc}
use Rattle.mvn_metadata.specs.Document.{Document}
use Rattle.repo_model.specs.Command.{Command, done, drop_draft, is_file_path, is_fit, is_landing, is_parcel, meets, proxy_rule_of, rule_of}
use Rattle.repo_model.specs.Data.{Blob, Phase, Row, Session, Staged, fading, listed}
use Rattle.repo_model.specs.Deploy.{deliver_again, deliver_at, deliver_all, discard_all}
use Rattle.repo_model.specs.Effect.{Effect, delivers, discards, relists, opens, ends, drops, caches, clears_negative, adds_negative, with_effect, with_effects, yard_after}
use Rattle.repo_model.specs.Fetched.{Landing, got_file, got_doc}
use Rattle.repo_model.specs.History.{Entry, Fits, IsReply, due, wants_memory, failed, after, commits, ticked}
use Rattle.repo_model.specs.Paths.{takes}
use Rattle.repo_model.specs.Reply.{Reply, is_free, no_draft, no_memory, store_fault, takes_memory}
use Rattle.repo_model.specs.Settings.{Settings}
use Rattle.repo_model.specs.State.{Lease, State, Yard, files_of, is_among, row_at, rows_of}
use Rattle.repo_model.specs.Turn.{Turn, gives_draft_up, is_drawn, lands, lands_file, turn}
use Rattle.repo_laws.proofs.Answered.{free-none, no-free, state-determined}
use Rattle.repo_laws.proofs.Cases.{Case, lends_file, takes_back, gives_draft, not_drawn, makes_row, has_same, lists_again, has_other, gives_up, gives_nothing_up, opens_one, stage_not_drawn, stage_nowhere, stages_one, stage_full, stage_same, stage_other, deploys, aborts, unlists_nothing, unlists, collects, plans_file, plans_document, lands_one, lands_late, turn-case}
use Rattle.course_laws.proofs.Alls.{all-flat, all-joined, all-mapped}
use Rattle.course_laws.specs.LeftBehind.{IsDrawn, NumbersAreBelow}
use Rattle.course_laws.specs.Duties.{MayAsk, Stand, draft_after, lease_after, stand_after}

-- the numbers below one that is not below itself
not_below : (n m : ℕ) → m < n → (m == n) ≡ false
not_below n m below = ne_eqb m n (λ is. omega (arith, is, below))

-- a number that stands after smaller ones is taken away again
pub taken_away : {X : Type 0} (number : X → ℕ) (next n : ℕ) (x : X) (xs : List X) → number x ≡ n → next ≤ n → NumbersAreBelow number next xs
    → filter (λ y. not (number y == n)) (xs ++ x ∷ []) ≡ xs
taken_away number next n x [] is up below = rw (is, eq-eqb n n refl) refl
taken_away number next n x (y ∷ ys) is up below =
    rw (not_below n (number y) (let here = below.0 in omega arith)) (ap (λ zs. y ∷ zs) (taken_away number next n x ys is up below.1))

-- a number stands among those after which it was put
stands_last : (n : ℕ) (ns : List ℕ) → is_among n (ns ++ n ∷ []) ≡ true
stands_last n [] = rw (eq-eqb n n refl) refl
stands_last n (m ∷ ms) = or_right (m == n) (is_among n (ms ++ n ∷ [])) (stands_last n ms)

-- the draft and the lease that a course holds stand after those that stood before it, if these are below the next ones to draw
abbrev pub OwnDraft : Yard → Option ℕ → List ℕ → Type 0
OwnDraft before None drafts = IsDrawn before → drafts ≡ before.drafts
OwnDraft before (Some n) drafts = (IsDrawn before → drafts ≡ before.drafts ++ n ∷ []) × (before.next_draft ≤ n) × (is_among n drafts ≡ true)

abbrev pub OwnLease : Yard → Option ℕ → List Lease → Type 0
OwnLease before None leases = IsDrawn before → leases ≡ before.leases
OwnLease before (Some n) leases =
    (blob : ℕ) × (IsDrawn before → leases ≡ before.leases ++ record { number = n; blob = blob } ∷ []) × (before.next_lease ≤ n)

pub record Holding (before : Yard) (draft lease : Option ℕ) (now : Yard) : Type 0 where
  pub drafts : OwnDraft before draft now.drafts
  pub leases : OwnLease before lease now.leases
  pub next_draft : before.next_draft ≤ now.next_draft
  pub next_lease : before.next_lease ≤ now.next_lease

module _ (before : Yard) where
  abbrev pub Holds : Stand → Yard → Type 0
  Holds s now = Holding before s.draft s.lease now

  -- a draft that is held may be given up
  own-gone : (n : ℕ) (now : Yard) → OwnDraft before (Some n) now.drafts → IsDrawn before → filter (λ m. not (m == n)) now.drafts ≡ before.drafts
  own-gone n now own drawn =
      ap (filter (λ m. not (m == n))) (own.0 drawn) ∙ taken_away (λ (m : ℕ). m) before.next_draft n n before.drafts refl own.1 drawn.drafts

  given-up : (s : Stand) (n : ℕ) (now later : Yard) → s.draft ≡ Some n → Holds s now → later.drafts ≡ filter (λ m. not (m == n)) now.drafts
      → later.leases ≡ now.leases → later.next_draft ≡ now.next_draft → later.next_lease ≡ now.next_lease → Holding before None s.lease later
  given-up s n now later is h drafts leases next_draft next_lease =
      let own : OwnDraft before (Some n) now.drafts = subst (λ d. OwnDraft before d now.drafts) is h.drafts in
      record {
        drafts = λ drawn. drafts ∙ own-gone n now own drawn;
        leases = keep s.lease h.leases;
        next_draft = let here = h.next_draft in omega arith;
        next_lease = let here = h.next_lease in omega arith;
      }
    where
      keep : (lease : Option ℕ) → OwnLease before lease now.leases → OwnLease before lease later.leases
      keep None own = λ drawn. leases ∙ own drawn
      keep (Some lease) own = (own.0, λ drawn. leases ∙ own.1 drawn, own.2)

  -- effects that leave drafts, leases and the numbers to be drawn for them as they are
  abbrev IsStill : Effect → Type 0
  IsStill (delivers n repo path blob moment) = Unit {0}
  IsStill (discards n path m) = Unit {0}
  IsStill (relists repo path moment) = Unit {0}
  IsStill (opens n repo) = Unit {0}
  IsStill (ends n result) = Unit {0}
  IsStill _ = ⊥

  same-yard : (draft lease : Option ℕ) (now later : Yard) → Holding before draft lease now → later.drafts ≡ now.drafts → later.leases ≡ now.leases
      → later.next_draft ≡ now.next_draft → later.next_lease ≡ now.next_lease → Holding before draft lease later
  same-yard draft lease now later h d l nd nl = record {
    drafts = subst (λ ds. OwnDraft before draft ds) (sym d) h.drafts;
    leases = subst (λ ls. OwnLease before lease ls) (sym l) h.leases;
    next_draft = let here = h.next_draft in omega (arith, here, nd);
    next_lease = let here = h.next_lease in omega (arith, here, nl);
  }

  still-holds : (draft lease : Option ℕ) (es : List Effect) (st : State) → AllByRecursion IsStill es → Holding before draft lease st.yard
      → Holding before draft lease (with_effects st es).yard
  still-holds draft lease [] st all h = h
  still-holds draft lease (delivers n repo path blob moment ∷ es) st all h = still-holds draft lease es (with_effect st (delivers n repo path blob moment)) all.1 h
  still-holds draft lease (discards n path m ∷ es) st all h = still-holds draft lease es (with_effect st (discards n path m)) all.1 (same-yard draft lease st.yard _ h refl refl refl refl)
  still-holds draft lease (relists repo path moment ∷ es) st all h = still-holds draft lease es (with_effect st (relists repo path moment)) all.1 h
  still-holds draft lease (opens n repo ∷ es) st all h = still-holds draft lease es (with_effect st (opens n repo)) all.1 (same-yard draft lease st.yard _ h refl refl refl refl)
  still-holds draft lease (ends n result ∷ es) st all h = still-holds draft lease es (with_effect st (ends n result)) all.1 h
  still-holds draft lease (_ ∷ es) st all h = absurd all.0

  deliver-still : (x : Session) (now : ℕ) (item : Staged) (o : Option Row) → AllByRecursion IsStill (deliver_at x now item o)
  deliver-still x now item None = (tt, tt)
  deliver-still x now item (Some row) = again row.phase
    where
      again : (phase : Phase) → AllByRecursion IsStill (deliver_again x now item phase)
      again listed = (tt, tt)
      again (fading since) = (tt, (tt, tt))

  number-is : (a : Bool) (n : ℕ) (blob : Blob) → IsTrue (a && is_parcel n blob) → blob.number ≡ n
  number-is a n blob holds = eqb-true blob.number n (and_parts (blob.number == n) _ (and_parts a (is_parcel n blob) holds).1).0

  -- what is held after a turn, and the reply is not that a draft is missing
  abbrev Goes : Command → Stand → State → Turn → Type 0
  Goes c s st t = Holding before (draft_after c t.reply s.draft) (lease_after c t.reply s.lease) (with_effects st t.effects).yard × (t.reply ≢ no_draft)

  module _ (settings : Settings) (s : Stand) (st : State) (h : Holds s st.yard) where
    -- what an effect does to the yard goes by the yard alone
    effects-yard : (es : List Effect) (u v : State) → u.yard ≡ v.yard → (with_effects u es).yard ≡ (with_effects v es).yard
    effects-yard [] u v is = is
    effects-yard (e ∷ es) u v is = effects-yard es (with_effect u e) (with_effect v e) (ap (yard_after e) is)

    own-draft : (n : ℕ) → s.draft ≡ Some n → is_among n st.yard.drafts ≡ true
    own-draft n is = (subst (λ d. OwnDraft before d st.yard.drafts) is h.drafts).2

    case-goes : (now : ℕ) (c : Command) (t : Turn) → Case settings st now c t → MayAsk c s → IsTrue (meets settings c) → Goes c s st t
    case-goes now c t (lends_file repo path tried blob more seen) may can = (
      record {
        drafts = h.drafts;
        leases = (
          blob.number,
          λ drawn. ap (λ ls. ls ++ record { number = st.yard.next_lease; blob = blob.number } ∷ []) (subst (λ l. OwnLease before l st.yard.leases) may.1 h.leases drawn),
          h.next_lease,
        );
        next_draft = h.next_draft;
        next_lease = let here = h.next_lease in omega arith;
      },
      λ is. cc,
    )
    case-goes now c t (takes_back lease) may can =
        let own : OwnLease before (Some lease) st.yard.leases = subst (λ l. OwnLease before l st.yard.leases) may h.leases in (
          record {
            drafts = h.drafts;
            leases = λ drawn. ap (filter (λ (l : Lease). not (l.number == lease))) (own.1 drawn)
                ∙ taken_away (λ (l : Lease). l.number) before.next_lease lease (record { number = lease; blob = own.0 }) before.leases refl own.2 drawn.leases;
            next_draft = h.next_draft;
            next_lease = h.next_lease;
          },
          λ is. cc,
        )
    case-goes now c t (gives_draft place path more) may can =
        let next = st.yard.next_draft in (
          record {
            drafts = (
              λ drawn. ap (λ ns. ns ++ next ∷ []) (subst (λ d. OwnDraft before d st.yard.drafts) may.1 h.drafts drawn),
              h.next_draft,
              stands_last next st.yard.drafts,
            );
            leases = h.leases;
            next_draft = let here = h.next_draft in omega arith;
            next_lease = h.next_lease;
          },
          λ is. cc,
        )
    case-goes now c t (makes_row repo path n blob among free) may can =
        (given-up s n st.yard _ may.1 h (ap (λ k. filter (λ m. not (m == k)) st.yard.drafts) (number-is (is_fit (λ rule. takes rule path) (rule_of repo settings)) n blob can)) refl refl refl, λ is. cc)
    case-goes now c t (has_same repo path n blob among) may can = (given-up s n st.yard _ may.1 h refl refl refl refl, λ is. cc)
    case-goes now c t (lists_again repo path n blob among row since found phase_is) may can = (given-up s n st.yard _ may.1 h refl refl refl refl, λ is. cc)
    case-goes now c t (has_other repo path n blob kept among) may can = (given-up s n st.yard _ may.1 h refl refl refl refl, λ is. cc)
    case-goes now c t (gives_up n among) may can = (given-up s n st.yard _ may h refl refl refl refl, λ is. cc)
    case-goes now c t (stage_nowhere at path n blob among) may can = (given-up s n st.yard _ may.1 h refl refl refl refl, λ is. cc)
    case-goes now c t (stages_one at path n blob one among known free room) may can =
        (given-up s n st.yard _ may.1 h (ap (λ k. filter (λ m. not (m == k)) st.yard.drafts) (number-is (is_file_path path) n blob can)) refl refl refl, λ is. cc)
    case-goes now c t (stage_full at path n blob among) may can = (given-up s n st.yard _ may.1 h refl refl refl refl, λ is. cc)
    case-goes now c t (stage_same at path n blob among) may can = (given-up s n st.yard _ may.1 h refl refl refl refl, λ is. cc)
    case-goes now c t (stage_other at path n blob kept among) may can = (given-up s n st.yard _ may.1 h refl refl refl refl, λ is. cc)
    case-goes now c t (not_drawn repo path n blob none) may can = absurd (false≢true (sym none ∙ own-draft n may.1))
    case-goes now c t (stage_not_drawn at path n blob none) may can = absurd (false≢true (sym none ∙ own-draft n may.1))
    case-goes now c t (gives_nothing_up n none) may can = absurd (false≢true (sym none ∙ own-draft n may))
    case-goes now c t (opens_one repo more few) may can = (still-holds s.draft s.lease (opens st.yard.next_session repo ∷ []) st (tt, tt) h, λ is. cc)
    case-goes now c t (deploys n x is going) may can = (
      still-holds s.draft s.lease _ st
          (all-joined IsStill (deliver_all x now (rows_of x.repo st)) _
          (all-flat IsStill (λ (item : Staged). deliver_at x now item (row_at item.path (rows_of x.repo st))) (λ item. deliver-still x now item (row_at item.path (rows_of x.repo st))) x.staged) (tt, tt)) h,
      λ is. cc,
    )
    case-goes now c t (aborts n x is going) may can = (
      still-holds s.draft s.lease _ st
          (all-joined IsStill (discard_all x) _ (all-mapped IsStill (λ (item : Staged). discards x.number item.path item.blob.number) (λ item. tt) x.staged) (tt, tt)) h,
      λ is. cc,
    )
    case-goes now c t (plans_file repo path tried member rule at more seen) may can =
        let next = st.yard.next_draft in (
          record {
            drafts = (
              λ drawn. ap (λ ns. ns ++ next ∷ []) (subst (λ d. OwnDraft before d st.yard.drafts) may.2 h.drafts drawn),
              h.next_draft,
              stands_last next st.yard.drafts,
            );
            leases = h.leases;
            next_draft = let here = h.next_draft in omega arith;
            next_lease = h.next_lease;
          },
          λ is. cc,
        )
    case-goes now c t (plans_document repo path tried member rule at seen) may can = (
      record {
        drafts = subst (λ d. OwnDraft before d st.yard.drafts) may.2 h.drafts;
        leases = h.leases;
        next_draft = h.next_draft;
        next_lease = h.next_lease;
      },
      λ is. cc,
    )
    case-goes now c t (lands_one plan outcome drawn) may can =
        (lands-hold outcome (and_parts (is_some (proxy_rule_of plan.proxy settings)) (is_landing (kind plan.path) plan.draft outcome) can).1, λ is. cc)
      where
        -- the draft of the plan is given up, where there is one
        up-held : (under : Option ℕ) → s.draft ≡ under → (later : Yard) → later ≡ (with_effects st (gives_draft_up under)).yard → Holding before None s.lease later
        up-held None is later same = subst (λ (y : Yard). Holding before None s.lease y) (sym same) (subst (λ d. Holding before d s.lease st.yard) is h)
        up-held (Some n) is later same =
            subst (λ (y : Yard). Holding before None s.lease y) (sym same) (given-up s n st.yard (with_effects st (drops n ∷ [])).yard is h refl refl refl refl)

        none-held : (under : Option ℕ) → s.draft ≡ under → under ≡ None → Holding before None s.lease st.yard
        none-held under is none = subst (λ d. Holding before d s.lease st.yard) (is ∙ none) h

        file-held : (k : Result Kind PathFault) (under : Option ℕ) (blob : Blob) → s.draft ≡ under → IsTrue (is_landing k under (came.Got (got_file blob))) → (moment : ℕ)
            → Holding before None s.lease (with_effects st (caches plan.proxy plan.path blob moment ∷ clears_negative plan.proxy plan.path ∷ [])).yard
        file-held (Ok (File c)) (Some n) blob is fits moment =
            given-up s n st.yard _ is h (ap (λ k. filter (λ m. not (m == k)) st.yard.drafts) (number-is true n blob fits)) refl refl refl
        file-held (Ok (Doc d)) None blob is fits moment = absurd (false≢true fits)
        file-held _ under blob is fits moment = absurd (false≢true fits)

        document-undrawn : (k : Result Kind PathFault) (under : Option ℕ) (document : Document) → IsTrue (is_landing k under (came.Got (got_doc document))) → under ≡ None
        document-undrawn (Ok (Doc d)) None document fits = refl
        document-undrawn (Ok (File c)) None document fits = refl
        document-undrawn _ under document fits = absurd (false≢true fits)

        row-held : (blob : Blob) (found : Option Row) → IsTrue (is_landing (kind plan.path) plan.draft (came.Got (got_file blob)))
            → Holding before None s.lease (with_effects st (lands_file plan blob now found)).yard
        row-held blob None fits = file-held (kind plan.path) plan.draft blob may.2 fits now
        row-held blob (Some row) fits = up-held plan.draft may.2 _ (effects-yard (gives_draft_up plan.draft) (with_effect st (clears_negative plan.proxy plan.path)) st refl)

        lands-hold : (outcome : Landing) → IsTrue (is_landing (kind plan.path) plan.draft outcome) → Holding before None s.lease (with_effects st (lands st now plan outcome)).yard
        lands-hold (came.Got (got_file blob)) fits = row-held blob (row_at plan.path (files_of plan.proxy st)) fits
        lands-hold (came.Got (got_doc document)) fits = none-held plan.draft may.2 (document-undrawn (kind plan.path) plan.draft document fits)
        lands-hold came.Gone fits = up-held plan.draft may.2 _ (effects-yard (gives_draft_up plan.draft) (with_effect st (adds_negative plan.proxy plan.path now)) st refl)
        lands-hold outcome fits = up-held plan.draft may.2 _ refl
    case-goes now c t (lands_late plan outcome late) may can = absurd (not-late plan.draft may.2 late)
      where
        not-late : (under : Option ℕ) → s.draft ≡ under → is_drawn under st.yard.drafts ≡ false → ⊥
        not-late None is late = false≢true (sym late)
        not-late (Some n) is late = false≢true (sym late ∙ own-draft n is)
    case-goes now c t (unlists_nothing repo) may can = absurd may
    case-goes now c t (unlists repo hosted is) may can = absurd may
    case-goes now c t collects may can = absurd may
    case-goes now c t case may can = (h, λ is. cc)

    -- where memory is wanted or the records fail, what is held stays
    memory-goes : (c : Command) → IsTrue (takes_memory c) → Holds (stand_after c no_memory s) st.yard
    memory-goes (done lease) can = absurd (false≢true can)
    memory-goes (drop_draft n) can = absurd (false≢true can)
    memory-goes _ can = h

    fault-goes : (now : ℕ) (c : Command) → IsTrue (commits c (turn settings st now c).effects) → Holds (stand_after c store_fault s) st.yard
    fault-goes now (done lease) can = absurd (false≢true can)
    fault-goes now (drop_draft n) can = absurd (never (is_among n st.yard.drafts) can)
      where
        never : (b : Bool) → IsTrue (commits (drop_draft n) (if b then drops n ∷ [] else [])) → ⊥
        never true is = cc
        never false is = cc
    fault-goes now _ can = h

    -- each entry of a command that the course may ask leaves the yard as the course says
    abbrev So : Entry → Reply → Yard → Type 0
    So e reply yard = Holds (stand_after e.command reply s) yard × (reply ≢ no_draft)

    pub step : (e : Entry) → MayAsk e.command s → Fits settings st e → Holds (stand_after e.command e.reply s) (after settings st e).yard × (e.reply ≢ no_draft)
    step e may fits = by fits.reply
      where
        free : (reply : Reply) → e.reply ≡ reply → is_free reply ≡ true → (reply ≢ no_draft) → Holds (stand_after e.command reply s) st.yard → So e e.reply (after settings st e).yard
        free reply is frees other holds =
            subst (λ r. So e r (after settings st e).yard) (sym is)
            (subst (λ es. So e reply (with_effects (ticked st e.moment e.faults) es).yard) (sym (free-none settings st e (ap is_free is ∙ frees))) (holds, other))

        by : IsReply settings st e → So e e.reply (after settings st e).yard
        by (due is did) =
            let t = turn settings st e.moment e.command in
            let bound : is_free e.reply ≡ false = ap is_free is ∙ no-free settings st e.moment e.command in
            let there : (after settings st e).yard ≡ (with_effects st t.effects).yard =
            ap (λ (u : State). u.yard) (state-determined settings st e bound) ∙ effects-yard t.effects (ticked st e.moment e.faults) st refl in
            subst (λ r. So e r (after settings st e).yard) (sym is)
            (subst (λ y. So e t.reply y) (sym there) (case-goes e.moment e.command t (turn-case settings st e.moment e.command) may fits.condition))
        by (wants_memory is can did) = free no_memory is refl (λ no. cc) (memory-goes e.command can)
        by (failed is can rose) = free store_fault is refl (λ no. cc) (fault-goes e.moment e.command can)
