-- A repository that was opened, and the entries that it made: its history is closed, and its records have what it recorded.
use Rattle.std.proofs.Common.{◌≡◌, ℕ, List, [], ◌∷◌, ◌++◌, map, Option, Some, None, refl, sym, subst, ap, ◌∙◌}
use Rattle.std.specs.Prelude.{IfSome}
use Rattle.std.specs.Option.{option_map}
use Rattle.std.proofs.lemmas.List.Sums.{fold-append}
use Rattle.outside.specs.Blobs.{Shelf}
use Rattle.outside.specs.Moments.{Moments}
use Rattle.repo_model.specs.declared.item.Item.{Item}
use Rattle.repo_model.specs.Effect.{recorded}
use Rattle.repo_model.specs.History.{Entry, Legal, after, effects_of}
use Rattle.repo_model.specs.Settings.{Settings}
use Rattle.repo_model.specs.State.{State}
use Rattle.repo_model.specs.Tables.{Tables, item_on}
use Rattle.repo_laws.specs.Holds.{InOrder, StandsFor, told, with_items}
use Rattle.repo_laws.specs.InRange.{InRange, Completes}
use Rattle.repo_laws.specs.Sound.{AreNamedApart, IsSound}
use Rattle.repo_laws.proofs.Completing.{completed-order, completed-range}
use Rattle.repo_laws.proofs.Closed.{closed}
use Rattle.repo_laws.proofs.Starting.{started-stands}
use Rattle.repo_laws.proofs.StartedSound.{started-sound}
use Rattle.repo_laws.proofs.Untouched.{untouched}
use Rattle.table_laws.proofs.Building.{built-order, built-range}
use Rattle.row_tables.specs.Commits.{tables_with}
use Rattle.row_tables.specs.Crashes.{IsOneOf, Rests, Unsettled, left_by}
use Rattle.crash_laws.specs.Found.{AreStagedStored}
use Rattle.crash_laws.proofs.Begun.{starts-staged}
use Rattle.crash_laws.proofs.RunLaws.{among-finds}
use Rattle.row_completion.specs.Completion.{IsDigestedWhereTold}
use Rattle.row_completion.proofs.Digesting.{completes-so}
use Rattle.repo_core.specs.CoreTurn.{CoreTurn}
use Rattle.repo_core.specs.Whole.{Whole}
use Rattle.repo_course.specs.Cleaning.{Store}
use Rattle.store_check.specs.Checking.{Recorded}
use Rattle.repo_run.specs.Begun.{Begins, HoldsRecords}
use Rattle.repo_run.specs.Clean as cleaning
use Rattle.repo_run.specs.FirstConnection.{Makes}
use Rattle.repo_run.specs.Surroundings.{View}
use Rattle.turn_lock.specs.declared.view.Entry.{Entry as Call}
use Rattle.turn_lock.specs.History as calls
use Rattle.turn_seats.specs.Seated.{Sight, entry_of}
use Rattle.settings_laws.proofs.Apart.{named-apart, proxies-apart}
use Rattle.served_laws.specs.Runs.{CompletesTold, IsClosed, RecordsTables}
use Rattle.served_laws.specs.Crashed.{CleanOutlasts, Made, RecordsOutlastCrashes, entries_made, left_behind, turns_made, unsettled_after}
use Rattle.served_laws.proofs.Crashed.{GoesOn, outlasts, turns-go-on}

same-tables : (tables : Option Tables) → tables ≡ option_map (λ t. with_items t []) tables
same-tables None = refl
same-tables (Some t) = refl

more-tables : (items more : List Item) (tables : Option Tables)
    → option_map (λ t. with_items t more) (tables_with items tables) ≡ option_map (λ t. with_items t (items ++ more)) tables
more-tables items more None = refl
more-tables items more (Some t) = ap Some (sym (fold-append item_on t items more))

-- what turns of a core leave of the tables
left-tables : (entries : List Entry) (old new : Whole) → Makes old entries new → new.tables ≡ option_map (λ t. with_items t (told old.settings old.state entries)) old.tables
left-tables [] old new made = ap (λ (w : Whole). w.tables) made ∙ same-tables old.tables
left-tables (e ∷ entries) old new (mid, turn, made) =
    let rest = left-tables entries mid new made in
    let first : List Item = recorded (effects_of old.settings old.state e) in
    let items : told mid.settings mid.state entries ≡ told old.settings (after old.settings old.state e) entries =
    ap (λ (s : Settings). told s mid.state entries) turn.same ∙ ap (λ (s : State). told old.settings s entries) turn.state in
    rest ∙ ap (λ (is : List Item). option_map (λ t. with_items t is) mid.tables) items
    ∙ ap (option_map (λ t. with_items t (told old.settings (after old.settings old.state e) entries))) turn.tables
    ∙ more-tables first (told old.settings (after old.settings old.state e) entries) old.tables

-- tables that a start left, as they are told
pub told-completed : (shelf : Shelf) (old new : Option Tables) → IsDigestedWhereTold shelf old new → CompletesTold old new
told-completed shelf None new is = is
told-completed shelf (Some old) new (whole, is, digested) = (whole, is, completes-so shelf old whole digested)

module _ (settings : Settings) (records : Recorded) (old cleared : Store) (clock : Option Moments) (core : Whole) (begins : Begins settings records old cleared clock core) where
  pub apart : AreNamedApart settings.hosted
  apart = named-apart settings begins.form

  -- the tables that were completed
  completes : Completes begins.completed.0 begins.tables
  completes = completes-so old.shelf begins.completed.0 begins.tables begins.completed.2

  pub whole-order : InOrder begins.tables
  whole-order = completed-order begins.completed.0 begins.tables completes (built-order begins.completed.0 begins.completed.1.built)

  whole-range : InRange begins.tables
  whole-range = completed-range begins.completed.0 begins.tables completes (built-range begins.completed.0 begins.completed.1.built)

  -- what a start leaves of tables that are told
  pub begun-completes : CompletesTold records.tables core.tables
  begun-completes = told-completed old.shelf records.tables core.tables begins.digested

  pub begun-sound : IsSound settings core.state
  begun-sound =
      subst (IsSound settings) (sym begins.starts.state)
      (started-sound settings begins.starts.tells begins.starts.stored clock records.faults begins.tables apart (proxies-apart settings begins.form) whole-order whole-range)

  pub begun-closed : (history : List Entry) → Legal settings core.state history → IsClosed settings core.state history
  begun-closed history legal = record {
    apart = apart;
    sound = begun-sound;
    legal = legal;
    closed = closed settings apart history core.state begun-sound.order legal;
    untouched = untouched settings apart history core.state begun-sound.order begun-sound.places legal;
  }

  begun-unstaged : (shelf : Shelf) → AreStagedStored shelf core.state
  begun-unstaged shelf =
      subst (AreStagedStored shelf) (sym begins.starts.state) (starts-staged settings begins.starts.tells begins.starts.stored clock records.faults begins.tables shelf)

  pub begun-stands : StandsFor begins.tables core.state
  begun-stands =
      subst (StandsFor begins.tables) (sym begins.starts.state)
      (started-stands settings begins.starts.tells begins.starts.stored clock records.faults begins.tables whole-order whole-range)

  -- the tables that were loaded are those that are told
  loaded-told : (before : Tables) → records.tables ≡ Some before → begins.completed.0 ≡ before
  loaded-told before told_so = subst (λ (x : Option Tables). IfSome x (λ them. begins.completed.0 ≡ them)) told_so begins.completed.1.told

  pub begun-records : (records' : Recorded) (left : Whole) (history : List Entry) → Makes core history left → HoldsRecords left records'
      → RecordsTables settings records records' core.state history
  begun-records records' left history made holds before told_so =
      let loaded : begins.completed.0 ≡ before = loaded-told before told_so in
      let now : records'.tables ≡ Some (with_items begins.tables (told settings core.state history)) =
      holds.0 ∙ left-tables history core left made
      ∙ ap (λ (s : Settings). option_map (λ t. with_items t (told s core.state history)) core.tables) begins.settings_are
      ∙ ap (option_map (λ t. with_items t (told settings core.state history))) (begins.tables_are ∙ ap (option_map (λ (t : Tables). begins.tables)) told_so) in (
        with_items begins.tables (told settings core.state history),
        now,
        record {
          whole = begins.tables;
          order = subst InOrder loaded (built-order begins.completed.0 begins.completed.1.built);
          completes = subst (λ (t : Tables). Completes t begins.tables) loaded completes;
          stands = begun-stands;
          left = refl;
        },
      )

  -- what it made outlasts crashes
  pub begun-outlasts : (records' : Recorded) (left : Whole) (made : List Made) → ((t : Tables) → core.tables ≡ Some t → GoesOn settings core t made left) → HoldsRecords left records'
      → RecordsOutlastCrashes settings records core records' made
  begun-outlasts records' left made goes_on holds before told_so =
      let told_core : core.tables ≡ Some begins.tables = begins.tables_are ∙ ap (option_map (λ (t : Tables). begins.tables)) told_so in
      let on : GoesOn settings core begins.tables made left = goes_on begins.tables told_core in
      let last : Tables = with_items begins.tables (told settings core.state (entries_made made)) in
      let unsettled_back : records'.unsettled ≡ unsettled_after core.unsettled made = holds.2 ∙ on.unsettled in
      record {
        whole = begins.tables;
        told_core = told_core;
        completes = subst (λ (t : Tables). Completes t begins.tables) (loaded-told before told_so) completes;
        settled = begins.settled;
        outlasts = outlasts settings apart (proxies-apart settings begins.form) core.state begins.tables core.unsettled made begun-sound whole-order begun-stands.holds on.legal on.are
            begun-unstaged begins.settled (subst (λ (told_so : Option Tables). Rests told_so core.unsettled) told_core begins.rests);
        told_back = holds.0 ∙ on.tables;
        unsettled_back = unsettled_back;
        found_back =
            among-finds (λ u. IsOneOf u (left_behind settings core.state begins.tables core.unsettled made)) (left_by last records'.unsettled.pending) records'.unsettled.trace
            records'.unsettled.trace (λ u is. subst (λ (w : Unsettled). IsOneOf u (left_by last w.pending)) unsettled_back is)
            (subst (λ (w : Unsettled). Rests left.tables w) (sym holds.2) holds.3 last on.tables);
      }

  -- so do its turns, one after another
  pub begun-turns : (records' : Recorded) (left : Whole) (entries : List Entry) (makes : Makes core entries left) → HoldsRecords left records'
      → RecordsOutlastCrashes settings records core records' (turns_made entries core left makes)
  begun-turns records' left entries makes =
      begun-outlasts records' left (turns_made entries core left makes) (λ t told_so. turns-go-on settings entries core left t makes begins.settings_are told_so)

-- and those of a cleaning
pub clean-outlasts : (settings : Settings) (old new : View Store) (status : ℕ) (cleans : cleaning.Cleans settings old new status) → CleanOutlasts settings old new status cleans
clean-outlasts settings old new status (cleaning.not_started fault fails clock told) = tt
clean-outlasts settings old new status (cleaning.passed begun core cleared entries result begins makes passes holds clock told) =
    begun-turns settings old.records old.place cleared old.clock begun begins new.records core entries makes holds

-- the calls of a core as entries that it made
module _ {C R : Type 0} (sight : Sight Whole C R) (steps : Whole → C → R → Whole → Type 0)
    (is_turn : (before after : Whole) (call : C) (reply : R) → steps before call reply after
    → CoreTurn before.settings before (entry_of sight (record { by = 0; call = call; reply = reply; after = after })) after) where
  pub made : (x : Whole) (log : List (Call C R Whole)) → calls.Legal steps x log → Makes x (map (entry_of sight) log) (calls.end_of x log)
  made x [] legal = refl
  made x (call ∷ log) legal = (call.after, is_turn x call.after call.call call.reply legal.0, made call.after log legal.1)
