-- One turn of the parts of the repository, as an entry that fits the machine's state.
use native.Mathlib.Omega.{arith}
use Rattle.std.proofs.Common.{◌≡◌, ℕ, ◌≤◌, min, max, Bool, true, false, if◌then◌else◌, List, [], ◌∷◌, Option, Some, None, Result, Ok, inl, inr, refl, sym, ap, ◌∙◌, subst, ◌⊎◌}
use Rattle.std.specs.Prelude.{IfSome, MatchOption, IsTrue, ◌==◌, bytes_eq, count_by, length, not, sum_by}
use Rattle.ordered_rows.specs.Rows.{fades}
use Rattle.mvn_coords.specs.Kind.{kind}
use Rattle.outside.specs.Moments.{Moments, moments_after}
use Rattle.mvn_coords.specs.declared.fault.PathFault.{PathFault}
use Rattle.mvn_coords.specs.declared.kind.Kind.{Kind}
use Rattle.mvn_coords.specs.declared.kind.Kind.TheVariants.{FileSide}
use Rattle.mvn_coords.specs.Layout.{text_of}
use Rattle.mvn_digest.specs.Sides.{side_of}
use Rattle.std.specs.Option.{option_map}
use Rattle.repo_model.specs.Data.{Blob, Row, Hosted, Proxy, repository}
use Rattle.repo_model.specs.Paths.{takes}
use Rattle.repo_model.specs.Settings.{Settings}
use Rattle.repo_model.specs.State.{State, Yard, hosted_of, is_open, number_end, row_at, rows_of}
use Rattle.repo_model.specs.Effect.{Effect, draws, lends, recorded, with_effect, with_effects}
use Rattle.repo_model.specs.Tables.{Tables}
use Rattle.repo_model.specs.declared.item.Item.{Item}
use Rattle.repo_model.specs.declared.question.Question.{Question}
use Rattle.repo_model.specs.declared.question.Question.TheVariants.{Status}
use Rattle.repo_model.specs.declared.question.Finding.{Finding}
use Rattle.repo_model.specs.declared.question.Finding.TheVariants.{Counts}
use Rattle.repo_model.specs.Asked.{finding_of}
use Rattle.repo_model.specs.Command.{Command, look, may_put, put_side, put_doc, collect, ask, meets}
use Rattle.repo_model.specs.Reply.{Reply, agreed, collected, differs, draft, fetches, file, finds, kind_refused, no_memory, spent, store_fault, is_free, takes_memory}
use Rattle.repo_model.specs.Purge.{expire_all}
use Rattle.repo_model.specs.Turn.{Seen, Turn, compared, draws_draft, file_limit, in_repository, is_file, is_to_fetch, look_at, plan_of, shows, turn, says, collect_of, judged, draws_or_spent}
use Rattle.repo_model.specs.History as history
use Rattle.repo_model.specs.History.{Entry, IsReply, MomentFits, commits, latest_moment, ticked, Fits, effects_of, after, is_collect}
use Rattle.outside.specs.Faults.{Rose}
use Rattle.repo_config.specs.Form.{IsSettings}
use Rattle.repo_laws.specs.Sound.{IsSound}
use Rattle.repo_laws.proofs.Answered.{no-free}
use Rattle.repo_laws.proofs.Holding.{entry-recorded}
use Rattle.repo_laws.proofs.Histories.{one-place-ticked, sound-ticked}
use Rattle.repo_laws.proofs.Keeping.{keeps-sound}
use Rattle.repo_laws.proofs.Moments.{last_of}
use Rattle.row_tables.specs.Applying.{with_items}
use Rattle.row_tables.specs.Commits.{tables_with}
use Rattle.row_tables.specs.Crashing.{tried}
use Rattle.row_tables.specs.Crashes.{Unsettled}
use Rattle.row_tables.specs.Leaving.{HasCause, Leaves, MayTake, Shown, done, end_by, failing}
use Rattle.row_tables.proofs.Leavings.{quiet-by, tables-by, told_same}
use Rattle.std.specs.Option.{ForSome}
use Rattle.std.proofs.lemmas.Bool.{false≢true, ne_eqb}
use Rattle.std.proofs.lemmas.Option.{none-some}
use Rattle.repo_core.specs.Turn.{done_by, IsAnswer, IsSettled, IsSettledBy, due, wants_memory, failed, MayRecord, Recorded, Turned, items_due}
use Rattle.repo_core.specs.Whole.{Parts, Whole, IsKept, IsOrderly, Tell, counting}
use Rattle.settings_laws.proofs.Apart.{named-apart}
use Rattle.repo_core.proofs.LookSame.{look-same}
use Rattle.repo_parts.proofs.PutReplies.{by-free}
use Rattle.repo_parts.proofs.AmongLemmas.{or-right}

nothing-done : (b : Bool) (s : State) → s ≡ with_effects s (if b then [] else [])
nothing-done true s = refl
nothing-done false s = refl

-- a command that says something and does nothing
pub turned-says : (w : Parts) (command : Command) (reply : Reply) → turn w.settings w.state w.state.last command ≡ says reply → Turned w w command reply
turned-says w command reply is = record {
  settings = refl;
  calls = refl;
  answered = inl (ap (λ (t : Turn). t.reply) (sym is));
  left = nothing-done (is_free reply) w.state ∙ ap (λ (t : Turn). with_effects w.state (if is_free reply then [] else t.effects)) (sym is);
}

-- a question is answered by what is found to it
pub turned-finds : (w : Parts) (question : Question) (finding : Finding) → finding ≡ finding_of w.state question → Turned w w (ask question) (finds finding)
turned-finds w question finding is = turned-says w (ask question) (finds finding) (ap (λ (f : Finding). says (finds f)) (sym is))

-- the counts of the rows and of the sessions
pub counts-found : (w : Parts) (files unlisted cached documents opened : ℕ) → opened ≡ count_by is_open w.state.sessions → files ≡ sum_by (λ (h : Hosted). length h.rows) w.state.hosted
    → unlisted ≡ sum_by (λ (h : Hosted). count_by fades h.rows) w.state.hosted → cached ≡ sum_by (λ (p : Proxy). length p.files) w.state.proxies
    → documents ≡ sum_by (λ (p : Proxy). length p.documents) w.state.proxies → Counts files unlisted cached documents opened ≡ finding_of w.state Status
counts-found w files unlisted cached documents opened some_open all some files_kept documents_kept =
    λ i. Counts (all i) (some i) (files_kept i) (documents_kept i) (some_open i)

-- memory runs out for a command that takes some
pub turned-without : (w : Parts) (command : Command) → takes_memory command ≡ true → Turned w w command no_memory
turned-without w command takes = record { settings = refl; calls = refl; answered = inr (refl, takes); left = refl }

-- what a turn says and does depends on no moment before, on no clock and on no count
later-same : (last : ℕ) (clock : Option Moments) (faults : ℕ) (es : List Effect) (s : State)
    → with_effects (record s { last = last; clock = clock; faults = faults }) es ≡ record (with_effects s es) { last = last; clock = clock; faults = faults }
later-same last clock faults [] s = refl
later-same last clock faults (e ∷ es) s = later-same last clock faults es (with_effect s e)

turn-same : (settings : Settings) (s : State) (last : ℕ) (clock : Option Moments) (faults now : ℕ) (c : Command) → turn settings (record s { last = last; clock = clock; faults = faults }) now c ≡ turn settings s now c
turn-same settings s last clock faults now collect = ap (λ (t : State). collect_of (expire_all settings.grace now s.hosted) t.yard) (later-same last clock faults (expire_all settings.grace now s.hosted) s)
turn-same settings s last clock faults now (look repo path tried) = ap (shows settings s.yard) (look-same s last clock faults settings now repo tried path)
turn-same settings s last clock faults now (may_put (repository repo) path) = refl
turn-same settings s last clock faults now (may_put place path) = refl
turn-same settings s last clock faults now (put_side (repository repo) path said) = refl
turn-same settings s last clock faults now (put_side place path said) = refl
turn-same settings s last clock faults now (put_doc (repository repo) path) = refl
turn-same settings s last clock faults now (put_doc place path) = refl
turn-same settings s last clock faults now c = refl

moment-by : (clock : Option Moments) (last moment : ℕ) → IfSome clock (λ moments. moment ≡ max last (min latest_moment moments.next)) → last ≤ moment → moment ≤ latest_moment → MatchOption clock ((last ≤ moment) × (moment ≤ latest_moment)) (λ moments. moment ≡ max last (min latest_moment moments.next))
moment-by None last moment given order limit = (order, limit)
moment-by (Some moments) last moment given order limit = given

-- the moment that was read fits
pub moment-given : (s : State) (moment : ℕ) → IfSome s.clock (λ moments. moment ≡ max s.last (min latest_moment moments.next)) → s.last ≤ moment → moment ≤ latest_moment → MomentFits s moment
moment-given s moment given order limit = moment-by s.clock s.last moment given order limit

-- a count that did not rise, or rose because the records failed
not-failed : (before later : ℕ) (reply : Reply) → HasCause (end_by reply) before later → (reply ≡ store_fault → ⊥) → later ≡ before
not-failed before later store_fault cause other = absurd (other refl)
not-failed before later reply cause other = cause

did-fail : (before later : ℕ) (reply : Reply) → HasCause (end_by reply) before later → reply ≡ store_fault → Rose before later
did-fail before later reply cause is = subst (λ (r : Reply). HasCause (end_by r) before later) is cause

no-less : (before later : ℕ) (reply : Reply) → HasCause (end_by reply) before later → before ≤ later
no-less before later store_fault cause = cause.0
no-less before later reply cause = omega (arith, cause)

counting-later : (faults : ℕ) (es : List Effect) (s : State) → with_effects (counting faults s) es ≡ counting faults (with_effects s es)
counting-later faults [] s = refl
counting-later faults (e ∷ es) s = counting-later faults es (with_effect s e)

-- a turn that began where the clock was read, as an entry; the records showed this before it and after it
module _ (w begun new : Parts) (moment : ℕ) (command : Command) (reply : Reply) (before later : Shown) (turned : Recorded begun new command reply before later)
    (settings : begun.settings ≡ w.settings) (state : begun.state ≡ ticked w.state moment 0) where
  abbrev old : State
  old = counting before.faults w.state

  abbrev made : Entry
  made = record { command = command; moment = new.state.last; reply = reply; faults = later.faults }

  last_is : new.state.last ≡ moment
  last_is = ap (λ (s : State). s.last) turned.left ∙ last_of (done_by begun.settings begun.state command reply) begun.state ∙ ap (λ (s : State). s.last) state

  turn_is : turn begun.settings begun.state begun.state.last command ≡ turn w.settings old new.state.last command
  turn_is =
      ap (λ st. turn st begun.state begun.state.last command) settings ∙ ap (λ (s : State). turn w.settings s s.last command) state
      ∙ turn-same w.settings w.state moment (option_map moments_after w.state.clock) 0 moment command ∙ ap (λ m. turn w.settings w.state m command) (sym last_is)
      ∙ sym (turn-same w.settings w.state w.state.last w.state.clock before.faults new.state.last command)

  reply_is : (turn begun.settings begun.state begun.state.last command).reply ≡ (turn w.settings old new.state.last command).reply
  reply_is = ap (λ (t : Turn). t.reply) turn_is

  -- the reply that is due is none of a failure, nor is out of memory
  bound-due : reply ≡ (turn begun.settings begun.state begun.state.last command).reply → reply ≡ store_fault → ⊥
  bound-due is fault = false≢true (sym (no-free begun.settings begun.state begun.state.last command) ∙ ap is_free (sym is ∙ fault))

  bound-memory : reply ≡ no_memory → reply ≡ store_fault → ⊥
  bound-memory is fault = let x : no_memory ≡ store_fault = sym is ∙ fault in cc

  pub turned-fits : IsTrue (meets w.settings command) → MomentFits w.state moment → Fits w.settings old made
  turned-fits met fits = record {
    condition = met;
    moment = subst (MomentFits w.state) (sym last_is) fits;
    faults = no-less before.faults later.faults reply turned.records.cause;
    reply = elim turned.answered as (λ _. IsReply w.settings old made) [
      | (due is) ↦ history.due (is ∙ reply_is) (λ _. not-failed before.faults later.faults reply turned.records.cause (bound-due is))
      | (wants_memory is may) ↦ history.wants_memory is may (λ _. not-failed before.faults later.faults reply turned.records.cause (bound-memory is))
      | (failed is asked) ↦ history.failed is (subst (λ (t : Turn). IsTrue (commits command t.effects)) turn_is asked) (did-fail before.faults later.faults reply turned.records.cause is)
    ];
  }

  pub turned-after : counting later.faults new.state ≡ after w.settings old made
  turned-after =
      ap (counting later.faults) (turned.left ∙ ap (λ (s : State). with_effects s (done_by begun.settings begun.state command reply)) state)
      ∙ sym (counting-later later.faults (done_by begun.settings begun.state command reply) (ticked w.state moment 0))
      ∙ ap (λ (t : Turn). with_effects (ticked w.state moment later.faults) (if is_free reply then [] else t.effects)) turn_is
      ∙ ap (λ m. with_effects (ticked w.state m later.faults) (effects_of w.settings old made)) (sym last_is)

  -- what it was to record, and what it leaves of the records
  pub turned-records : Leaves (tried w.settings old made) (end_by reply) before later
  turned-records = subst (λ (t : Turn). Leaves (recorded t.effects) (end_by reply) before later) turn_is turned.records

-- a state is as orderly once the clock was read
pub ticked-orderly : (w : Parts) (moment calls : ℕ) → IsOrderly w → IsOrderly (record { settings = w.settings; state = ticked w.state moment 0; calls = calls })
ticked-orderly w moment calls orderly = record {
  order = sound-ticked w.settings w.state moment 0 orderly.order;
  places = one-place-ticked w.state moment 0 orderly.places;
  form = orderly.form;
}

-- what fits the tables whatever the moment is, does so once the clock was read
pub begun-fit : (w begun : Parts) (now : Shown) (command : Command) (moment : ℕ) → begun.settings ≡ w.settings → begun.state ≡ ticked w.state moment 0 → w.state.last ≤ moment
    → moment ≤ latest_moment → MayRecord w now command → MayTake (items_due begun command) now
begun-fit w begun now command moment settings state order limit may =
    let same : turn w.settings w.state moment command ≡ turn begun.settings begun.state begun.state.last command =
    sym (turn-same w.settings w.state moment (option_map moments_after w.state.clock) 0 moment command) ∙ ap (λ (s : State). turn w.settings s s.last command) (sym state) ∙ ap (λ st. turn st begun.state begun.state.last command) (sym settings) in
    subst (λ (t : Turn). MayTake (recorded t.effects) now) same (record { ready = may.ready; fits = may.fits moment order limit })

-- items that are recorded are committed
pub some-items : (items : List Item) → (items ≡ [] → ⊥) → not (length items == 0) ≡ true
some-items [] some = absurd (some refl)
some-items (item ∷ items) some = ap not (ne_eqb (length (item ∷ items)) 0 (λ none. omega (arith, none)))

-- after a commit
pub settled-by : (reply : Reply) (unsettled : Unsettled) → unsettled.pending ≡ None → IsSettledBy reply unsettled
settled-by (collected expired blobs) unsettled is = is
settled-by reply unsettled is = tt

-- what is recorded unless the reply is one that changes nothing
unless : (b : Bool) (es : List Effect) (tables : Option Tables) → (if b then tables else tables_with (recorded es) tables) ≡ tables_with (recorded (if b then [] else es)) tables
unless true es tables = told_same tables
unless false es tables = refl

pub recorded-tables : (es : List Effect) (reply : Reply) (before later : Shown) → Leaves (recorded es) (end_by reply) before later → later.tables ≡ tables_with (recorded (if is_free reply then [] else es)) before.tables
recorded-tables es reply before later leaves = tables-by (recorded es) before later reply leaves ∙ unless (is_free reply) es before.tables

-- where the records are not asked, they do not fail
no-failure : (old new : Parts) (command : Command) (reply : Reply) → Turned old new command reply → reply ≡ store_fault → ⊥
no-failure old new command reply turned fault = elim turned.answered as (λ _. ⊥) [
  | (inl is) ↦ false≢true (sym (no-free old.settings old.state old.state.last command) ∙ ap is_free (sym is ∙ fault))
  | (inr is) ↦ let x : no_memory ≡ store_fault = sym is.0 ∙ fault in cc
]

-- the commands that record nothing
spent-quiet : (next : ℕ) (t : Turn) → recorded t.effects ≡ [] → recorded (draws_or_spent next t).effects ≡ []
spent-quiet next t none = elim (next == number_end) as (λ b. recorded (if b then says spent else t).effects ≡ []) [ true ↦ refl | false ↦ none ]

shows-nothing : (settings : Settings) (y : Yard) (seen : Seen) → recorded (shows settings y seen).effects ≡ []
shows-nothing settings y (is_file blob) = spent-quiet y.next_lease (record { reply = file y.next_lease blob; effects = lends blob.number ∷ [] }) refl
shows-nothing settings y (is_to_fetch member rule path true) =
    spent-quiet y.next_draft (record { reply = fetches (plan_of member rule path (Some y.next_draft) (file_limit settings)); effects = draws ∷ [] }) refl
shows-nothing settings y seen = refl

pub draws-quiet : (next : ℕ) → recorded (draws_draft next).effects ≡ []
draws-quiet next = spent-quiet next (record { reply = draft next; effects = draws ∷ [] }) refl

pub if-quiet : (b : Bool) (t : Turn) (reply : Reply) → recorded t.effects ≡ [] → recorded (if b then t else says reply).effects ≡ []
if-quiet true t reply none = none
if-quiet false t reply none = refl

pub in-quiet : (path : List ℕ) (found : Option Hosted) (t : Turn) → recorded t.effects ≡ [] → recorded (in_repository path found t).effects ≡ []
in-quiet path None t none = refl
in-quiet path (Some h) t none = if-quiet (takes h.rule path) t kind_refused none

-- a digest that is compared does nothing
compared-says : (said : List ℕ) (found : Option (List ℕ)) → compared said found ≡ says (compared said found).reply
compared-says said None = refl
compared-says said (Some kept) =
    elim (bytes_eq said kept) as (λ b. (if b then says agreed else says (differs said kept)) ≡ says (if b then says agreed else says (differs said kept)).reply) [ true ↦ refl | false ↦ refl ]

pub judged-says : (k : Result Kind PathFault) (said : List ℕ) (blob_at : List ℕ → Option Blob) → judged k said blob_at ≡ says (judged k said blob_at).reply
judged-says (Ok (FileSide c side)) said blob_at = compared-says said (option_map (λ (blob : Blob). side_of blob.print.digests side) (blob_at (text_of c)))
judged-says k said blob_at = refl

pub judges-nothing : (k : Result Kind PathFault) (said : List ℕ) (blob_at : List ℕ → Option Blob) → recorded (judged k said blob_at).effects ≡ []
judges-nothing k said blob_at = ap (λ (t : Turn). recorded t.effects) (judged-says k said blob_at)

pub look-quiet : (w : Parts) (repo path tried : List ℕ) → recorded (turn w.settings w.state w.state.last (look repo path tried)).effects ≡ []
look-quiet w repo path tried = shows-nothing w.settings w.state.yard (look_at w.settings w.state w.state.last repo tried path)

pub may_put-quiet : (w : Parts) (repo path : List ℕ) → recorded (turn w.settings w.state w.state.last (may_put (repository repo) path)).effects ≡ []
may_put-quiet w repo path = in-quiet path (hosted_of repo w.state) (draws_draft w.state.yard.next_draft) (draws-quiet w.state.yard.next_draft)

pub put_side-quiet : (w : Parts) (repo path said : List ℕ) → recorded (turn w.settings w.state w.state.last (put_side (repository repo) path said)).effects ≡ []
put_side-quiet w repo path said = judges-nothing (kind path) said (λ at. option_map (λ (row : Row). row.blob) (row_at at (rows_of repo w.state)))

-- a turn whose effects, if it had any, were recorded
pub recorded-so : (old new : Parts) (command : Command) (reply : Reply) (before later : Shown) → Turned old new command reply → Leaves (items_due old command) (end_by reply) before later
    → Recorded old new command reply before later
recorded-so old new command reply before later turned leaves = record {
  settings = turned.settings;
  calls = turned.calls;
  answered = elim turned.answered as (λ _. IsAnswer old command reply) [ (inl is) ↦ due is | (inr is) ↦ wants_memory is.0 is.1 ];
  left = turned.left;
  records = leaves;
}

-- a turn whose records failed
pub failed-so : (old new : Parts) (command : Command) (before later : Shown) → new.settings ≡ old.settings → new.calls ≡ old.calls → new.state ≡ old.state
    → IsTrue (commits command (turn old.settings old.state old.state.last command).effects) → Leaves (items_due old command) failing before later → Recorded old new command store_fault before later
failed-so old new command before later settings calls state asked leaves =
    record { settings = settings; calls = calls; answered = failed refl asked; left = state; records = leaves }

-- what the repository keeps is kept by a turn of it
pub kept-more : (old new : Whole) (e : Entry) → IsKept old → Fits old.settings old.state e → new.state ≡ after old.settings old.state e → new.settings ≡ old.settings
    → new.tables ≡ tables_with (recorded (effects_of old.settings old.state e)) old.tables → IsKept new
kept-more old new e kept fits state settings tables =
    let apart = named-apart old.settings kept.form in
    let sound : IsSound old.settings (after old.settings old.state e) = keeps-sound old.settings apart old.state e kept.sound fits in
    let items = recorded (effects_of old.settings old.state e) in
    let told : ForSome (tables_with items old.tables) (Tell (after old.settings old.state e)) = tell-more old.tables kept.told in
    record {
      sound = subst (λ st. IsSound st new.state) (sym settings) (subst (IsSound old.settings) (sym state) sound);
      form = subst IsSettings (sym settings) kept.form;
      told = subst (λ ts. ForSome ts (Tell new.state)) (sym tables) (subst (λ st. ForSome (tables_with items old.tables) (Tell st)) (sym state) told);
    } where
      tell-more : (ts : Option Tables) → ForSome ts (Tell old.state) → ForSome (tables_with (recorded (effects_of old.settings old.state e)) ts) (Tell (after old.settings old.state e))
      tell-more None told t is = absurd (none-some t is)
      tell-more (Some before) told t is =
          let was = told before refl in
          let more = entry-recorded old.settings (named-apart old.settings kept.form) old.state e before fits kept.sound.order kept.sound.places kept.sound.sessions was.order was.holds in
          let same : with_items before (recorded (effects_of old.settings old.state e)) ≡ t = cc in
          subst (Tell (after old.settings old.state e)) same (record { order = more.1; holds = more.2 })

-- a command that records nothing, and what was asked for
module _ (old new : Parts) (asked command : Command) (reply : Reply) (now : Shown) where
  pub alone : asked ≡ command → items_due old asked ≡ [] → IsSettled asked reply now.unsettled → now.IsReady → Turned old new asked reply
      → Recorded old new command reply now now × IsSettled command reply now.unsettled
  alone same none settled ready turned =
      subst (λ q. Recorded old new q reply now now × IsSettled q reply now.unsettled) same
      (recorded-so old new asked reply now now turned (quiet-by (items_due old asked) now reply none ready (no-failure old new asked reply turned)), settled)

-- a reply that is none of failure
pub committed-by : (items : List Item) (before later : Shown) (reply : Reply) → is_free reply ≡ false → Leaves items done before later → Leaves items (end_by reply) before later
committed-by items before later store_fault bound leaves = absurd (false≢true (sym bound))
committed-by items before later no_memory bound leaves = absurd (false≢true (sym bound))
committed-by items before later reply bound leaves = leaves

-- any command whose change is recorded
pub recorded-by : (w new : Parts) (command : Command) (t : Turn) (reply : Reply) (before later : Shown) → turn w.settings w.state w.state.last command ≡ t
    → takes_memory command ≡ true → (reply ≡ t.reply) ⊎ (IsTrue (is_free reply) × (reply ≡ store_fault → recorded t.effects ≡ [] → ⊥)) → new.settings ≡ w.settings → new.calls ≡ w.calls
    → new.state ≡ with_effects w.state (if is_free reply then [] else t.effects) → Leaves (recorded t.effects) (end_by reply) before later
    → Recorded w new command reply before later
recorded-by w new command t reply before later is memory given settings calls left leaves = record {
  settings = settings;
  calls = calls;
  answered = elim given as (λ _. IsAnswer w command reply) [
    | (inl so) ↦ due (so ∙ ap (λ (u : Turn). u.reply) (sym is))
    | (inr so) ↦ by-free (λ r. (r ≡ reply) → IsAnswer w command r) reply so.0 (λ _. wants_memory refl memory)
        (λ here. failed refl (subst (λ (u : Turn). IsTrue (commits command u.effects)) (sym is)
        (or-right (is_collect command) (not (length (recorded t.effects) == 0)) (some-items (recorded t.effects) (so.1 (sym here)))))) refl
  ];
  left = left ∙ ap (λ (u : Turn). with_effects w.state (if is_free reply then [] else u.effects)) (sym is);
  records = subst (λ (u : Turn). Leaves (recorded u.effects) (end_by reply) before later) (sym is) leaves;
}

pub recorded-given : (t : Turn) (reply : Reply) → (reply ≡ t.reply) ⊎ (IsTrue (is_free reply) × (recorded t.effects ≡ [] → ⊥))
    → (reply ≡ t.reply) ⊎ (IsTrue (is_free reply) × (reply ≡ store_fault → recorded t.effects ≡ [] → ⊥))
recorded-given t reply (inl is) = inl is
recorded-given t reply (inr so) = inr (so.0, λ _. so.1)
