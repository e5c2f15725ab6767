-- The turns of a core one after another, each with what is unsettled after it, and what a start finds then.
use Rattle.std.proofs.Common.{◌≡◌, ◌≢◌, inl, ℕ, Bool, false, List, [], ◌∷◌, ◌++◌, Option, Some, None, Ok, refl, sym, subst, ap, append_assoc, ◌∙◌}
use Rattle.std.specs.Prelude.{◌&&◌, IsTrue, Result, is_some}
use Rattle.std.proofs.lemmas.List.Sums.{fold-append}
use Rattle.mvn_coords.specs.Kind.{kind}
use Rattle.mvn_coords.specs.Layout.{Coordinates}
use Rattle.mvn_coords.specs.declared.fault.PathFault.{PathFault}
use Rattle.mvn_coords.specs.declared.kind.Kind.{Kind}
use Rattle.mvn_coords.specs.declared.kind.Kind.TheVariants.{File}
use Rattle.outside.specs.Blobs.{Shelf}
use Rattle.repo_model.specs.declared.item.Item.{Item}
use Rattle.repo_model.specs.Command.{Command, collect, is_fit, is_parcel, is_there, meets, put, rule_of}
use Rattle.repo_model.specs.Data.{Blob, Row}
use Rattle.repo_model.specs.Effect.{new_row, recorded}
use Rattle.repo_model.specs.History.{Entry, Fits, Legal, after, effects_of, end}
use Rattle.repo_model.specs.Paths.{file_in, takes_file}
use Rattle.repo_model.specs.Reply.{collected, created}
use Rattle.repo_model.specs.Settings.{Rule, Settings}
use Rattle.repo_model.specs.State.{State, is_among, row_at, rows_of}
use Rattle.repo_model.specs.Tables.{Tables, item_on}
use Rattle.repo_laws.specs.Closed.{all_given_out}
use Rattle.repo_laws.specs.Holds.{Holds, InOrder, told, with_items}
use Rattle.repo_laws.specs.Sound.{AreNamedApart, AreProxiesApart, IsSound}
use Rattle.repo_laws.proofs.Holding.{history-recorded}
use Rattle.repo_laws.proofs.Keeping.{keeps-sound}
use Rattle.row_tables.specs.Commits.{tables_with}
use Rattle.row_tables.specs.Crashing.{Crashing}
use Rattle.row_tables.specs.Crashes.{IsOneOf, Rests, Unsettled, left_by}
use Rattle.crash_laws.specs.Found.{AllHandOver, AreStagedStored, HasStored, IsWholeWithout, NamesNone}
use Rattle.crash_laws.specs.Runs.{FindsAlways, IsAnsweredAgain, CrashesAlong, tables_after}
use Rattle.crash_laws.specs.Crashes.{MayNotGo, PendAlong}
use Rattle.crash_laws.proofs.Bytes.{answered-whole}
use Rattle.crash_laws.proofs.Created.{created-records, created-stands}
use Rattle.crash_laws.proofs.GivenOut.{collected-settles, given-out-left, given-out-unnamed}
use Rattle.crash_laws.proofs.Missed.{left-whole, recorded-kept, run-whole, runs-pend}
use Rattle.crash_laws.proofs.RunLaws.{entry-again, entry-finds, finds-more, left-again, left-between, left-recorded, runs-find}
use Rattle.repo_core.specs.CoreTurn.{CoreTurn}
use Rattle.repo_core.specs.Whole.{Whole}
use Rattle.repo_run.specs.FirstConnection.{Makes}
use Rattle.turn_lock.specs.declared.view.Entry.{Entry as Call}
use Rattle.turn_lock.specs.History as calls
use Rattle.turn_seats.specs.Seated.{Sight, entry_of}
use Rattle.served_laws.specs.Crashed.{AreMade, FindsSince, IsAnsweredStill, Made, OutlastsCrashes, calls_made, entries_made, left_behind, turns_made, unsettled_after}

-- a rule that takes a file is there, and the path is that of a file
takes-what : (rule : Option Rule) (k : Result Kind PathFault) (b : Bool) → IsTrue (is_fit (λ (r : Rule). takes_file r (file_in k)) rule && b)
    → IsTrue (is_some rule) × ((c : Coordinates) × (k ≡ Ok (File c)))
takes-what (Some rule) (Ok (File c)) b met = (refl, (c, refl))
takes-what _ _ b met = absurd (cc)

-- the tables are the first that a crash leaves between calls
first-left : (t : Tables) (pending : Option (List Item)) → IsOneOf t (left_by t pending)
first-left t None = inl refl
first-left t (Some items) = inl refl

-- a core went on from tables to another one by what was made
pub record GoesOn (settings : Settings) (old : Whole) (t : Tables) (made : List Made) (new : Whole) : Type 0 where
  pub legal : Legal settings old.state (entries_made made)
  pub are : AreMade settings old.state t made old.unsettled
  pub tables : new.tables ≡ Some (with_items t (told settings old.state (entries_made made)))
  pub unsettled : new.unsettled ≡ unsettled_after old.unsettled made

module _ (settings : Settings) where
  -- of a put that may be made the repository is there, and the path is that of a file
  pub put-place : (repo path : List ℕ) (n : ℕ) (blob : Blob) (command : Command) → command ≡ put repo path n blob → IsTrue (meets settings command)
      → IsTrue (is_there repo settings) × ((c : Coordinates) × (kind path ≡ Ok (File c)))
  put-place repo path n blob command is met =
      takes-what (rule_of repo settings) (kind path) (is_parcel n blob) (subst (λ (what : Command). IsTrue (meets settings what)) is met)

  -- a core that was asked nothing
  pub stays : (w : Whole) (t : Tables) → w.tables ≡ Some t → GoesOn settings w t [] w
  stays w t told_so = record { legal = tt; are = tt; tables = told_so; unsettled = refl }

  -- the tables after a turn
  told-next : (e : Entry) (old mid : Whole) (t : Tables) → old.settings ≡ settings → old.tables ≡ Some t → CoreTurn old.settings old e mid
      → mid.tables ≡ Some (tables_after settings old.state e t)
  told-next e old mid t settings_are told_so turn =
      turn.tables ∙ ap (λ (s : Settings). tables_with (recorded (effects_of s old.state e)) old.tables) settings_are
      ∙ ap (tables_with (recorded (effects_of settings old.state e))) told_so

  -- what a crash leaves at each moment of a turn
  crashes-by : (e : Entry) (old mid : Whole) (t : Tables) → old.settings ≡ settings → old.tables ≡ Some t → CoreTurn old.settings old e mid
      → Crashing settings old.state e (Some t) (Some (tables_after settings old.state e t)) old.unsettled mid.unsettled
  crashes-by e old mid t settings_are told_so turn =
      subst (λ (told : Option Tables). Crashing settings old.state e told (Some (tables_after settings old.state e t)) old.unsettled mid.unsettled) told_so
      (subst (λ (told : Option Tables). Crashing settings old.state e old.tables told old.unsettled mid.unsettled) (told-next e old mid t settings_are told_so turn)
      (subst (λ (s : Settings). Crashing s old.state e old.tables mid.tables old.unsettled mid.unsettled) settings_are turn.crashes))

  -- a turn, and what goes on after it
  goes-on : (e : Entry) (old mid new : Whole) (t : Tables) (made : List Made) → old.settings ≡ settings → old.tables ≡ Some t → CoreTurn old.settings old e mid
      → GoesOn settings mid (tables_after settings old.state e t) made new → GoesOn settings old t (record { entry = e; leaves = mid.unsettled } ∷ made) new
  goes-on e old mid new t made settings_are told_so turn later =
      let next : Tables = tables_after settings old.state e t in
      let state_is : mid.state ≡ after settings old.state e = turn.state ∙ ap (λ (s : Settings). after s old.state e) settings_are in
      record {
        legal = (subst (λ (s : Settings). Fits s old.state e) settings_are turn.fits, subst (λ (s : State). Legal settings s (entries_made made)) state_is later.legal);
        are = (
          crashes-by e old mid t settings_are told_so turn,
          subst (λ (s : State). AreMade settings s next made mid.unsettled) state_is later.are,
        );
        tables =
            later.tables ∙ ap (λ (s : State). Some (with_items next (told settings s (entries_made made)))) state_is
            ∙ ap Some (sym (fold-append item_on t (recorded (effects_of settings old.state e)) (told settings (after settings old.state e) (entries_made made))));
        unsettled = later.unsettled;
      }

  -- the turns of a core, one after another
  pub turns-go-on : (entries : List Entry) (old new : Whole) (t : Tables) (makes : Makes old entries new) → old.settings ≡ settings → old.tables ≡ Some t
      → GoesOn settings old t (turns_made entries old new makes) new
  turns-go-on [] old new t makes settings_are told_so = subst (λ (w : Whole). GoesOn settings old t [] w) (sym makes) (stays old t told_so)
  turns-go-on (e ∷ entries) old new t (mid, turn, makes) settings_are told_so =
      goes-on e old mid new t (turns_made entries mid new makes) settings_are told_so turn
      (turns-go-on entries mid new (tables_after settings old.state e t) makes (turn.same ∙ settings_are) (told-next e old mid t settings_are told_so turn))

  -- so the calls of a history of one
  module _ {C R : Type 0} (sight : Sight Whole C R) (steps : Whole → C → R → Whole → Type 0)
      (is_turn : (before after : Whole) (call : C) (reply : R) → steps before call reply after
      → CoreTurn before.settings before (entry_of sight (record { by = 0; call = call; reply = reply; after = after })) after) where
    pub calls-go-on : (log : List (Call C R Whole)) (x : Whole) (t : Tables) → calls.Legal steps x log → x.settings ≡ settings → x.tables ≡ Some t
        → GoesOn settings x t (calls_made sight log) (calls.end_of x log)
    calls-go-on [] x t legal settings_are told_so = stays x t told_so
    calls-go-on (call ∷ log) x t legal settings_are told_so =
        let e : Entry = entry_of sight call in
        let turn : CoreTurn x.settings x e call.after = is_turn x call.after call.call call.reply legal.0 in
        goes-on e x call.after (calls.end_of call.after log) t (calls_made sight log) settings_are told_so turn
        (calls-go-on log call.after (tables_after settings x.state e t) legal.1 (turn.same ∙ settings_are) (told-next e x call.after t settings_are told_so turn))

  -- the first of some that were made
  pub first-ones : (first rest : List Made) (s : State) (t : Tables) (old : Unsettled) → Legal settings s (entries_made (first ++ rest)) → AreMade settings s t (first ++ rest) old
      → Legal settings s (entries_made first) × AreMade settings s t first old
  first-ones [] rest s t old legal are = (tt, tt)
  first-ones (m ∷ first) rest s t old legal are =
      let more = first-ones first rest (after settings s m.entry) (tables_after settings s m.entry t) m.leaves legal.1 are.1 in
      ((legal.0, more.0), (are.0, more.1))

  -- what is pending along what was made, and what a crash leaves
  pub pend-of : (made : List Made) (s : State) (t : Tables) (old : Unsettled) → AreMade settings s t made old
      → PendAlong settings s (entries_made made) old.pending (unsettled_after old made).pending
  pend-of [] s t old are = refl
  pend-of (m ∷ made) s t old are = (m.leaves.pending, are.0.pends, pend-of made (after settings s m.entry) (tables_after settings s m.entry t) m.leaves are.1)

  pub runs-of : (made : List Made) (s : State) (t : Tables) (old : Unsettled) → AreMade settings s t made old → CrashesAlong settings s t (entries_made made) old (unsettled_after old made)
  runs-of [] s t old are = refl
  runs-of (m ∷ made) s t old are = (m.leaves, are.0, runs-of made (after settings s m.entry) (tables_after settings s m.entry t) m.leaves are.1)

  -- one that was made after a front
  crashes-at : (front rest : List Made) (m : Made) (s : State) (t : Tables) (old : Unsettled) → AreMade settings s t (front ++ m ∷ rest) old
      → Crashing settings (end settings s (entries_made front)) m.entry (Some (with_items t (told settings s (entries_made front))))
      (Some (tables_after settings (end settings s (entries_made front)) m.entry (with_items t (told settings s (entries_made front))))) (unsettled_after old front) m.leaves
  crashes-at [] rest m s t old are = are.0
  crashes-at (x ∷ front) rest m s t old are =
      subst
      (λ (there : Tables). Crashing settings (end settings s (entries_made (x ∷ front))) m.entry (Some there)
      (Some (tables_after settings (end settings s (entries_made (x ∷ front))) m.entry there)) (unsettled_after x.leaves front) m.leaves)
      (sym (fold-append item_on t (recorded (effects_of settings s x.entry)) (told settings (after settings s x.entry) (entries_made front))))
      (crashes-at front rest m (after settings s x.entry) (tables_after settings s x.entry t) x.leaves are.1)

  -- a front of what was made, and what was made after it
  pub made-on : (xs ys : List Made) → entries_made (xs ++ ys) ≡ entries_made xs ++ entries_made ys
  made-on [] ys = refl
  made-on (x ∷ xs) ys = ap (λ (es : List Entry). x.entry ∷ es) (made-on xs ys)

  unsettled-on : (xs ys : List Made) (old : Unsettled) → unsettled_after old (xs ++ ys) ≡ unsettled_after (unsettled_after old xs) ys
  unsettled-on [] ys old = refl
  unsettled-on (x ∷ xs) ys old = unsettled-on xs ys x.leaves

  told-on : (xs ys : List Entry) (s : State) (t : Tables) → with_items t (told settings s (xs ++ ys)) ≡ with_items (with_items t (told settings s xs)) (told settings (end settings s xs) ys)
  told-on [] ys s t = refl
  told-on (x ∷ xs) ys s t =
      let items : List Item = recorded (effects_of settings s x) in
      fold-append item_on t items (told settings (after settings s x) (xs ++ ys)) ∙ told-on xs ys (after settings s x) (tables_after settings s x t)
      ∙ ap (λ (u : Tables). with_items u (told settings (end settings s (x ∷ xs)) ys)) (sym (fold-append item_on t items (told settings (after settings s x) xs)))

  -- what is found since one of them returned
  pub since : (P : Tables → Type 0) (s : State) (t : Tables) (old : Unsettled) (first later : List Made) (m : Made)
      → ((u : Tables) → IsOneOf u (left_behind settings s t old (first ++ m ∷ later)) → P u) → FindsAlways P m.leaves.trace (unsettled_after m.leaves later).trace
      → FindsSince settings s t old P (first ++ m ∷ []) later
  since P s t old first later m between always =
      let there : unsettled_after old (first ++ m ∷ []) ≡ m.leaves = unsettled-on first (m ∷ []) old in
      let last : unsettled_after old ((first ++ m ∷ []) ++ later) ≡ unsettled_after m.leaves later =
      unsettled-on (first ++ m ∷ []) later old ∙ ap (λ (w : Unsettled). unsettled_after w later) there in (
        (λ u found. between u (subst (λ (l : List Made). IsOneOf u (left_behind settings s t old l)) (append_assoc first (m ∷ []) later) found)),
        subst (λ (w : Unsettled). FindsAlways P w.trace (unsettled_after old ((first ++ m ∷ []) ++ later)).trace) (sym there)
            (subst (λ (w : Unsettled). FindsAlways P m.leaves.trace w.trace) (sym last) always),
      )

  parted : (front later : List Made) (s : State) (t : Tables) (old : Unsettled) → AreMade settings s t (front ++ later) old
      → CrashesAlong settings s t (entries_made front) old (unsettled_after old front)
      × CrashesAlong settings (end settings s (entries_made front)) (with_items t (told settings s (entries_made front))) (entries_made later) (unsettled_after old front)
      (unsettled_after (unsettled_after old front) later)
  parted [] later s t old are = (refl, runs-of later s t old are)
  parted (x ∷ front) later s t old are =
      let (runs, goes) = parted front later (after settings s x.entry) (tables_after settings s x.entry t) x.leaves are.1 in (
        (x.leaves, are.0, runs),
        subst
            (λ (there : Tables). CrashesAlong settings (end settings s (entries_made (x ∷ front))) there (entries_made later) (unsettled_after x.leaves front)
            (unsettled_after (unsettled_after x.leaves front) later))
            (sym (fold-append item_on t (recorded (effects_of settings s x.entry)) (told settings (after settings s x.entry) (entries_made front)))) goes,
      )

  module _ (apart : AreNamedApart settings.hosted) (proxies : AreProxiesApart settings.proxies) where
    -- where one that was made stands: the tables there and what was unsettled before it, what is known of these, and what is left after it
    pub reached : (first later rest : List Made) (m : Made) (s : State) (t : Tables) (old : Unsettled) → IsSound settings s → InOrder t → Holds t s
        → Legal settings s (entries_made (first ++ m ∷ (later ++ rest))) → AreMade settings s t (first ++ m ∷ (later ++ rest)) old
        → (there : Tables) × (left : Unsettled) × IsSound settings (end settings s (entries_made first)) × InOrder there
        × Holds there (end settings s (entries_made first)) × Legal settings (end settings s (entries_made first)) (m.entry ∷ entries_made (later ++ rest))
        × AreMade settings (end settings s (entries_made first)) there (m ∷ (later ++ rest)) left
        × ((u : Tables) → IsOneOf u (left_behind settings s t old (first ++ m ∷ later))
        → IsOneOf u (left_by (with_items (tables_after settings (end settings s (entries_made first)) m.entry there)
        (told settings (after settings (end settings s (entries_made first)) m.entry) (entries_made later))) (unsettled_after m.leaves later).pending))
    reached [] later rest m s t old sound order holds legal are = (
      t,
      old,
      sound,
      order,
      holds,
      legal,
      are,
      (λ u is.
          subst (λ (x : Tables). IsOneOf u (left_by x (unsettled_after m.leaves later).pending))
          (fold-append item_on t (recorded (effects_of settings s m.entry)) (told settings (after settings s m.entry) (entries_made later))) is),
    )
    reached (x ∷ first) later rest m s t old sound order holds legal are =
        let kept = history-recorded settings apart (x.entry ∷ []) s t (legal.0, tt) sound.order sound.places sound.sessions order holds in
        let next : Tables = tables_after settings s x.entry t in
        let same : with_items t (told settings s (x.entry ∷ [])) ≡ next = fold-append item_on t (recorded (effects_of settings s x.entry)) [] in
        let (there, left, sound', order', holds', legal', are', behind) =
        reached first later rest m (after settings s x.entry) next x.leaves (keeps-sound settings apart s x.entry sound legal.0)
        (subst InOrder same kept.1) (subst (λ (u : Tables). Holds u (after settings s x.entry)) same kept.2) legal.1 are.1 in (
          there,
          left,
          sound',
          order',
          holds',
          legal',
          are',
          (λ u is.
              behind u
              (subst (λ (y : Tables). IsOneOf u (left_by y (unsettled_after x.leaves (first ++ m ∷ later)).pending))
              (fold-append item_on t (recorded (effects_of settings s x.entry)) (told settings (after settings s x.entry) (entries_made (first ++ m ∷ later)))) is)),
        )

    module _ (s : State) (t : Tables) (old : Unsettled) (made : List Made) (sound : IsSound settings s) (order : InOrder t) (holds : Holds t s)
        (legal : Legal settings s (entries_made made)) (are : AreMade settings s t made old) where
      -- what stands after a call that recorded something
      standing-again : (first later rest : List Made) (m : Made) (repo : List ℕ) (row : Row) (c : Coordinates) → made ≡ first ++ m ∷ (later ++ rest)
          → recorded (effects_of settings (end settings s (entries_made first)) m.entry) ≢ []
          → row_at row.path (rows_of repo (after settings (end settings s (entries_made first)) m.entry)) ≡ Some row
          → IsTrue (is_there repo settings) → kind row.path ≡ Ok (File c) → MayNotGo (entries_made later) row.path
          → FindsSince settings s t old (IsAnsweredStill settings (first ++ m ∷ later) repo row) (first ++ m ∷ []) later
      standing-again first later rest m repo row c parts some stands known named stay =
          let at = end settings s (entries_made first) in
          let (there, left, sound', order', holds', legal', are', behind) =
          reached first later rest m s t old sound order holds (subst (λ (all : List Made). Legal settings s (entries_made all)) parts legal)
          (subst (λ (all : List Made). AreMade settings s t all old) parts are) in
          let next : Tables = tables_after settings at m.entry there in
          let front = first-ones later rest (after settings at m.entry) next m.leaves legal'.1 are'.1 in
          let last = unsettled_after m.leaves later in
          let along = pend-of later (after settings at m.entry) next m.leaves front.1 in
          let so_far : List Made = first ++ m ∷ later in
          let whole : made ≡ so_far ++ rest = parts ∙ sym (append_assoc first (m ∷ later) rest) in
          let firsts = first-ones so_far rest s t old (subst (λ (all : List Made). Legal settings s (entries_made all)) whole legal) (subst (λ (all : List Made). AreMade settings s t all old) whole are) in
          let now : Tables = with_items t (told settings s (entries_made so_far)) in
          let off : is_among row.blob.number (all_given_out (entries_made so_far)) ≡ false =
          recorded-kept settings s t (entries_made so_far) old.pending (unsettled_after old so_far).pending repo row apart sound order holds firsts.0 (pend-of so_far s t old firsts.1)
          (left-recorded settings at there now m.entry (entries_made later) left.pending m.leaves.pending last.pending repo row apart sound' order' holds' (legal'.0, front.0) stay some stands are'.0.pends along
          (behind now (first-left now (unsettled_after old so_far).pending))) in
          let still : (u : Tables) → IsAnsweredAgain settings repo row u → IsAnsweredStill settings so_far repo row u =
          λ u again. (again, answered-whole settings repo row (all_given_out (entries_made so_far)) u off again) in
          since (IsAnsweredStill settings so_far repo row) s t old first later m
          (λ u found.
          still u
          (left-again settings at there u m.entry (entries_made later) left.pending m.leaves.pending last.pending repo row c apart proxies sound' order' holds' (legal'.0, front.0) stay
          known named some stands are'.0.pends along (behind u found)))
          (finds-more (IsAnsweredAgain settings repo row) (IsAnsweredStill settings so_far repo row) m.leaves.trace last.trace still
          (entry-again settings at there m.entry (entries_made later) left m.leaves last repo row c apart proxies sound' order' holds' (legal'.0, front.0) stay
          known named some stands (m.leaves, are'.0, refl) (runs-of later (after settings at m.entry) next m.leaves front.1)))

      -- what a put created
      created-there : (first later rest : List Made) (m : Made) (repo path : List ℕ) (n : ℕ) (blob : Blob) → made ≡ first ++ m ∷ (later ++ rest)
          → m.entry.command ≡ put repo path n blob → m.entry.reply ≡ created → MayNotGo (entries_made later) path
          → FindsSince settings s t old (IsAnsweredStill settings (first ++ m ∷ later) repo (new_row path blob m.entry.moment)) (first ++ m ∷ []) later
      created-there first later rest m repo path n blob parts is done stay =
          let at = end settings s (entries_made first) in
          let (there, left, sound', order', holds', legal', are', behind) =
          reached first later rest m s t old sound order holds (subst (λ (all : List Made). Legal settings s (entries_made all)) parts legal)
          (subst (λ (all : List Made). AreMade settings s t all old) parts are) in
          let (known, (c, named)) = put-place repo path n blob m.entry.command is legal'.0.condition in
          standing-again first later rest m repo (new_row path blob m.entry.moment) c parts (created-records settings at m.entry repo path n blob apart sound' legal'.0 is done)
          (created-stands settings at m.entry repo path n blob apart sound' legal'.0 is done) known named stay

      -- what a Collect gave out
      given-away : (first later rest : List Made) (m : Made) (expired : ℕ) (blobs : List ℕ) → made ≡ first ++ m ∷ (later ++ rest)
          → m.entry.command ≡ collect → m.entry.reply ≡ collected expired blobs → FindsSince settings s t old (NamesNone blobs) (first ++ m ∷ []) later
      given-away first later rest m expired blobs parts is done =
          let at = end settings s (entries_made first) in
          let (there, left, sound', order', holds', legal', are', behind) =
          reached first later rest m s t old sound order holds (subst (λ (all : List Made). Legal settings s (entries_made all)) parts legal)
          (subst (λ (all : List Made). AreMade settings s t all old) parts are) in
          let next : Tables = tables_after settings at m.entry there in
          let last = unsettled_after m.leaves later in
          let front = first-ones later rest (after settings at m.entry) next m.leaves legal'.1 are'.1 in
          let quiet : m.leaves.pending ≡ None = collected-settles settings at m.entry expired blobs left.pending m.leaves.pending is done are'.0.pends in
          let along : PendAlong settings (after settings at m.entry) (entries_made later) None last.pending =
          subst (λ (p : Option (List Item)). PendAlong settings (after settings at m.entry) (entries_made later) p last.pending) quiet
          (pend-of later (after settings at m.entry) next m.leaves front.1) in
          since (NamesNone blobs) s t old first later m
          (λ u found.
          given-out-left settings at there u m.entry (entries_made later) expired blobs apart sound' order' holds' (legal'.0, front.0) is done
          (left-between settings (after settings at m.entry) next u (entries_made later) last.pending along (behind u found)))
          (given-out-unnamed settings at there m.entry (entries_made later) left m.leaves last expired blobs apart sound' order' holds' (legal'.0, front.0) is done
          (m.leaves, are'.0, refl) (runs-of later (after settings at m.entry) next m.leaves front.1))

      -- what a store that keeps what it acknowledged may lack
      never-damaged : ((shelf : Shelf) → AreStagedStored shelf s) → old.pending ≡ None → Rests (Some t) old → (front later rest : List Made) (acknowledged : Shelf) → made ≡ front ++ (later ++ rest)
          → HasStored acknowledged t → AllHandOver acknowledged (entries_made (front ++ later))
          → FindsSince settings s t old (IsWholeWithout (all_given_out (entries_made front)) acknowledged) front later
      never-damaged staged settled rests front later rest acknowledged parts rows each =
          let earlier : List Entry = entries_made front in
          let more : List Entry = entries_made later in
          let mid : Unsettled = unsettled_after old front in
          let last : Unsettled = unsettled_after mid later in
          let whole : made ≡ (front ++ later) ++ rest = parts ∙ sym (append_assoc front later rest) in
          let firsts =
          first-ones (front ++ later) rest s t old (subst (λ (all : List Made). Legal settings s (entries_made all)) whole legal) (subst (λ (all : List Made). AreMade settings s t all old) whole are) in
          let legal' : Legal settings s (earlier ++ more) = subst (Legal settings s) (made-on front later) firsts.0 in
          let each' : AllHandOver acknowledged (earlier ++ more) = subst (AllHandOver acknowledged) (made-on front later) each in
          let (runs, goes) = parted front later s t old firsts.1 in
          let there : Tables = with_items t (told settings s earlier) in
          let next : State = end settings s earlier in
          let told_is : with_items t (told settings s (entries_made (front ++ later))) ≡ with_items there (told settings next more) =
          ap (λ (es : List Entry). with_items t (told settings s es)) (made-on front later) ∙ told-on earlier more s t in (
            (λ u found.
                left-whole settings s t earlier more old.pending mid.pending last.pending acknowledged apart sound order holds legal' rows (staged acknowledged) each' settled
                (runs-pend settings earlier s t old mid runs) (runs-pend settings more next there mid last goes) u
                (subst (λ (x : Tables). IsOneOf u (left_by x last.pending)) told_is
                (subst (λ (w : Unsettled). IsOneOf u (left_by (with_items t (told settings s (entries_made (front ++ later)))) w.pending)) (unsettled-on front later old) found))),
            subst (λ (w : Unsettled). FindsAlways (IsWholeWithout (all_given_out earlier) acknowledged) mid.trace w.trace) (sym (unsettled-on front later old))
                (run-whole settings s t earlier more old mid last acknowledged apart sound order holds legal' rows (staged acknowledged) each' settled rests runs goes),
          )

      -- what was made from a sound state in which no file is staged, over tables that hold it, with nothing pending, where a crash leaves these
      pub outlasts : ((shelf : Shelf) → AreStagedStored shelf s) → old.pending ≡ None → Rests (Some t) old → OutlastsCrashes settings s t old made
      outlasts staged settled rests = record {
        are = are;
        fronts = λ front rest u parts found.
            left-between settings s t u (entries_made front) (unsettled_after old front).pending (pends front rest parts) found;
        calls = λ front rest m parts.
            entry-finds settings s t (entries_made front) m.entry (unsettled_after old front) m.leaves (pends front (m ∷ rest) parts)
            (crashes-at front rest m s t old (subst (λ (all : List Made). AreMade settings s t all old) parts are));
        moments = runs-find settings s t (entries_made made) old (unsettled_after old made) settled rests (runs-of made s t old are);
        standing = standing-again;
        created_files = created-there;
        given_out = given-away;
        undamaged = never-damaged staged settled rests;
      }
        where
          pends : (front rest : List Made) → made ≡ front ++ rest → PendAlong settings s (entries_made front) None (unsettled_after old front).pending
          pends front rest parts =
              subst (λ (p : Option (List Item)). PendAlong settings s (entries_made front) p (unsettled_after old front).pending) settled
              (pend-of front s t old
              (first-ones front rest s t old (subst (λ (all : List Made). Legal settings s (entries_made all)) parts legal) (subst (λ (all : List Made). AreMade settings s t all old) parts are)).1)
