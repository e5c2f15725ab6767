-- Each file that a crash leaves of a run names a blob that was acknowledged, where so did those before it and what was handed over.
use Rattle.std.proofs.Common.{◌≡◌, ℕ, true, false, not, List, [], ◌∷◌, map, Option, Some, None, sym, subst}
use Rattle.std.specs.Prelude.{if◌then◌else◌}
use Rattle.std.specs.List.{AllByRecursion, flat_map}
use Rattle.std.specs.Ordering.{nat_cmp, match_ordering}
use Rattle.std.specs.declared.cmp.Ordering.TheVariants.{Less, Equal, Greater}
use Rattle.std.specs.Cmp.Lexicographic.{slice_cmp}
use Rattle.std.proofs.lemmas.List.Sums.{fold-append}
use Rattle.fetch_plan.specs.declared.Outcome.TheVariants.{Got, Gone}
use Rattle.fetch_plan.specs.declared.Plan.{Plan}
use Rattle.outside.specs.Blobs.{Shelf}
use Rattle.repo_model.specs.declared.session.SessionResult.TheVariants.{Aborted}
use Rattle.repo_model.specs.Command.{Command, land}
use Rattle.repo_model.specs.Data.{Blob, Hosted, Phase, Row, Session, Staged, fading, listed}
use Rattle.repo_model.specs.Deploy.{deliver_again, deliver_at, deliver_all, discard_all}
use Rattle.repo_model.specs.Effect.{Effect, creates, stages, delivers, discards, relists, fades, expires, forgets, opens, ends, caches, sessions_after, with_effect, with_effects, with_staged, without_staged, list_again, fade, new_session, items_of, recorded}
use Rattle.repo_model.specs.Fetched.{Landing, got_file, got_doc}
use Rattle.repo_model.specs.History.{Entry, Legal, after, effects_of, end, ticked}
use Rattle.repo_model.specs.Prints.{recorded_print}
use Rattle.repo_model.specs.Purge.{due_rows, expire_all, expired_of, most_rows}
use Rattle.repo_model.specs.Reply.{is_free}
use Rattle.repo_model.specs.Settings.{Settings}
use Rattle.repo_model.specs.State.{State, files_of, is_open_at, is_session, is_staged, row_at, rows_of}
use Rattle.repo_model.specs.Tables.{Tables, is_recorded, item_on, recorded_row}
use Rattle.repo_model.specs.Turn.{Turn, gives_draft_up, lands_by, lands_file, turn}
use Rattle.repo_laws.specs.Holds.{told, with_items}
use Rattle.repo_laws.proofs.Cases.{Case, deploys, aborts, unlists, collects, lands_one, turn-case}
use Rattle.repo_laws.proofs.HoldingLists.{all-change_first, all-change_where, all-filter, all-join, all-push, all-split}
use Rattle.repo_laws.proofs.HoldingOrder.{all-with_recorded}
use Rattle.repo_laws.proofs.Lists.{all-take}
use Rattle.repo_laws.proofs.Orderly.{found-has}
use Rattle.row_tables.specs.Crashes.{Rests, Unsettled}
use Rattle.crash_laws.specs.Found.{AllHandOver, AreStagedStored, AreStored, HandsOver, HasStored, IsAcknowledged, IsStagedStored, IsStored}
use Rattle.crash_laws.specs.Runs.{FindsAlways, IsLeftBySome, CrashesAlong, tables_after}
use Rattle.crash_laws.specs.Crashes.{IsFrontOf, IsLeft, as_done, done, front}
use Rattle.crash_laws.proofs.AllRows.{all-rows, rows-all}
use Rattle.crash_laws.proofs.Fronts.{is-front, legal-front}
use Rattle.crash_laws.proofs.RunLaws.{finds-more, runs-find}

module _ {X : Type 0} (P : Effect → Type 0) where
  each-map : (f : X → Effect) → ((x : X) → P (f x)) → (xs : List X) → AllByRecursion P (map f xs)
  each-map f each [] = tt
  each-map f each (x ∷ xs) = (each x, each-map f each xs)

  each-flat : (Q : X → Type 0) (f : X → List Effect) → ((x : X) → Q x → AllByRecursion P (f x)) → (xs : List X) → AllByRecursion Q xs → AllByRecursion P (flat_map f xs)
  each-flat Q f each [] all = tt
  each-flat Q f each (x ∷ xs) all = all-join P (f x) (flat_map f xs) (each x all.0) (each-flat Q f each xs all.1)

pub any-list : {X : Type 0} (xs : List X) → AllByRecursion (λ (x : X). Unit {0}) xs
any-list [] = tt
any-list (x ∷ xs) = (tt, any-list xs)

module _ (shelf : Shelf) where
  abbrev IsFileStored : Staged → Type 0
  IsFileStored file = IsAcknowledged shelf file.blob

  -- the blob of a new row or of a file that is staged was acknowledged
  abbrev EffectStored : Effect → Type 0
  EffectStored (creates repo path blob moment) = IsAcknowledged shelf blob
  EffectStored (stages n path blob) = IsAcknowledged shelf blob
  EffectStored (delivers n repo path blob moment) = IsAcknowledged shelf blob
  EffectStored (caches id path blob moment) = IsAcknowledged shelf blob
  EffectStored effect = Unit {0}

  abbrev pub RowsStored : Tables → Type 0
  RowsStored t = AreStored shelf t.hosted × AreStored shelf t.cached

  -- what an effect records
  items-stored : (e : Effect) (t : Tables) → EffectStored e → RowsStored t → RowsStored (with_items t (items_of e))
  items-stored (creates repo path blob moment) t is all =
      (all-with_recorded (IsStored shelf) (recorded_row repo path blob.number (recorded_print blob.print) moment) t.hosted all.0 is, all.1)
  items-stored (delivers n repo path blob moment) t is all =
      (all-with_recorded (IsStored shelf) (recorded_row repo path blob.number (recorded_print blob.print) moment) t.hosted all.0 is, all.1)
  items-stored (caches id path blob moment) t is all =
      (all.0, all-with_recorded (IsStored shelf) (recorded_row id path blob.number (recorded_print blob.print) moment) t.cached all.1 is)
  items-stored (relists repo path moment) t is all =
      (all-change_where (IsStored shelf) (is_recorded repo path) (λ r. record r { row = list_again moment r.row }) (λ r so. so) t.hosted all.0, all.1)
  items-stored (fades repo path moment) t is all =
      (all-change_where (IsStored shelf) (is_recorded repo path) (λ r. record r { row = fade moment r.row }) (λ r so. so) t.hosted all.0, all.1)
  items-stored (expires repo path blob) t is all = (all-filter (IsStored shelf) (λ r. not (is_recorded repo path r)) t.hosted all.0, all.1)
  items-stored effect t is all = all

  -- and what it leaves staged
  one-more : (new : Staged) (files : List Staged) → IsFileStored new → AllByRecursion IsFileStored files → AllByRecursion IsFileStored (with_staged new files)
  one-more new [] is all = (is, tt)
  one-more new (file ∷ files) is all =
      elim (slice_cmp nat_cmp new.path file.path)
      as (λ o. AllByRecursion IsFileStored (match_ordering o (new ∷ file ∷ files) (new ∷ file ∷ files) (file ∷ with_staged new files))) [
        | Less ↦ (is, all)
        | Equal ↦ (is, all)
        | Greater ↦ (all.0, one-more new files is all.1)
      ]

  fewer : (n : ℕ) (path : List ℕ) (s : State) → AreStagedStored shelf s → AreStagedStored shelf (record s { sessions = sessions_after (discards n path 0) s.sessions })
  fewer n path s all =
      all-change_first (IsStagedStored shelf) (is_open_at n) (without_staged path) (λ one so. all-filter IsFileStored (λ file. not (is_staged path file)) one.staged so) s.sessions all

  staged-stored : (e : Effect) (s : State) → EffectStored e → AreStagedStored shelf s → AreStagedStored shelf (with_effect s e)
  staged-stored (stages n path blob) s is all =
      all-change_first (IsStagedStored shelf) (is_open_at n) (λ one. record one { staged = with_staged (record { path = path; blob = blob }) one.staged })
      (λ one so. one-more (record { path = path; blob = blob }) one.staged is so) s.sessions all
  staged-stored (delivers n repo path blob moment) s is all = fewer n path s all
  staged-stored (discards n path draft) s is all = fewer n path s all
  staged-stored (opens n repo) s is all = all-push (IsStagedStored shelf) s.sessions (new_session n repo) all tt
  staged-stored (ends n result) s is all =
      all-change_first (IsStagedStored shelf) (is_open_at n) (λ one. record one { ended = Some result }) (λ one so. so) s.sessions all
  staged-stored effect s is all = all

  effects-stored : (es : List Effect) (s : State) (t : Tables) → AllByRecursion EffectStored es → AreStagedStored shelf s → RowsStored t
      → AreStagedStored shelf (with_effects s es) × RowsStored (with_items t (recorded es))
  effects-stored [] s t each staged rows = (staged, rows)
  effects-stored (e ∷ es) s t each staged rows =
      let (left, more) = effects-stored es (with_effect s e) (with_items t (items_of e)) each.1 (staged-stored e s each.0 staged) (items-stored e t each.0 rows) in
      (left, subst RowsStored (sym (fold-append item_on t (items_of e) (recorded es))) more)

  -- what lands
  gives-up : (under : Option ℕ) → AllByRecursion EffectStored (gives_draft_up under)
  gives-up None = tt
  gives-up (Some n) = (tt, tt)

  lands-row : (plan : Plan) (blob : Blob) (now : ℕ) → IsAcknowledged shelf blob → (found : Option Row) → AllByRecursion EffectStored (lands_file plan blob now found)
  lands-row plan blob now is None = (is, (tt, tt))
  lands-row plan blob now is (Some row) = (tt, gives-up plan.draft)

  lands-stored : (files : List Row) (now : ℕ) (plan : Plan) (outcome : Landing) → HandsOver shelf (land plan outcome) → AllByRecursion EffectStored (lands_by files now plan outcome)
  lands-stored files now plan (Got (got_file blob)) is = lands-row plan blob now is (row_at plan.path files)
  lands-stored files now plan (Got (got_doc document)) is = (tt, (tt, tt))
  lands-stored files now plan Gone is = (tt, gives-up plan.draft)
  lands-stored files now plan outcome is = gives-up plan.draft

  -- what is delivered
  again : (one : Session) (now : ℕ) (file : Staged) (phase : Phase) → AllByRecursion EffectStored (deliver_again one now file phase)
  again one now file listed = (tt, tt)
  again one now file (fading since) = (tt, (tt, tt))

  delivers-one : (one : Session) (now : ℕ) (file : Staged) → IsFileStored file → (found : Option Row) → AllByRecursion EffectStored (deliver_at one now file found)
  delivers-one one now file is None = (is, tt)
  delivers-one one now file is (Some row) = again one now file row.phase

  module _ (settings : Settings) where
    module _ (s : State) (now : ℕ) (staged : AreStagedStored shelf s) where
      case-stored : (c : Command) (it : Turn) → Case settings s now c it → HandsOver shelf c → AllByRecursion EffectStored it.effects
      case-stored c it (lands_one plan outcome drawn) is = lands-stored (files_of plan.proxy s) now plan outcome is
      case-stored c it (deploys n one known going) is =
          all-push EffectStored (deliver_all one now (rows_of one.repo s)) (ends one.number _)
          (each-flat EffectStored IsFileStored (λ (file : Staged). deliver_at one now file (row_at file.path (rows_of one.repo s)))
          (λ file so. delivers-one one now file so (row_at file.path (rows_of one.repo s))) one.staged (found-has (IsStagedStored shelf) (is_session n) s.sessions one staged known)) tt
      case-stored c it (aborts n one known going) is =
          all-push EffectStored (discard_all one) (ends one.number Aborted)
          (each-map EffectStored (λ (file : Staged). discards one.number file.path file.blob.number) (λ file. tt) one.staged) tt
      case-stored c it (unlists repo h known) is = each-map EffectStored (λ (row : Row). fades h.rule.id row.path now) (λ row. tt) (due_rows h.rule now h.rows)
      case-stored c it collects is =
          all-push EffectStored (expire_all settings.grace now s.hosted) (forgets _)
          (all-take EffectStored most_rows (flat_map (expired_of settings.grace now) s.hosted)
          (each-flat EffectStored (λ (h : Hosted). Unit {0}) (expired_of settings.grace now)
          (λ h so. each-map EffectStored (λ (row : Row). expires h.rule.id row.path row.blob.number) (λ row. tt) _) s.hosted (any-list s.hosted))) tt
      case-stored c it case is = (assumption)

    entry-stored : (s : State) (e : Entry) → AreStagedStored shelf s → HandsOver shelf e.command → AllByRecursion EffectStored (effects_of settings s e)
    entry-stored s e staged is =
        let it = turn settings s e.moment e.command in
        elim (is_free e.reply) as (λ b. AllByRecursion EffectStored (if b then [] else it.effects)) [
          | true ↦ tt
          | false ↦ case-stored s e.moment staged e.command it (turn-case settings s e.moment e.command) is
        ]

    pub stays-stored : (s : State) (e : Entry) (t : Tables) → AreStagedStored shelf s → RowsStored t → HandsOver shelf e.command
        → AreStagedStored shelf (after settings s e) × RowsStored (tables_after settings s e t)
    stays-stored s e t staged rows is = effects-stored (effects_of settings s e) (ticked s e.moment e.faults) t (entry-stored s e staged is) staged rows

    history-stored : (entries : List Entry) (s : State) (t : Tables) → AllHandOver shelf entries → AreStagedStored shelf s → RowsStored t → RowsStored (with_items t (told settings s entries))
    history-stored [] s t each staged rows = rows
    history-stored (e ∷ entries) s t each staged rows =
        let (left, more) = stays-stored s e t staged rows each.0 in
        subst RowsStored (sym (fold-append item_on t (recorded (effects_of settings s e)) (told settings (after settings s e) entries)))
        (history-stored entries (after settings s e) (tables_after settings s e t) each.1 left more)

    abbrev IsHandedOver : Entry → Type 0
    IsHandedOver e = HandsOver shelf e.command

    -- a front of entries hands over what they do
    front-stored : (s : State) (entries history : List Entry) → IsFrontOf settings s entries history → AllHandOver shelf entries → AllHandOver shelf history
    front-stored s entries history (front rest is) each = (all-split IsHandedOver history rest (subst (AllHandOver shelf) is each)).0
    front-stored s entries history (done first rest e parts failed is) each =
        let (before, behind) = all-split IsHandedOver first (e ∷ rest) (subst (AllHandOver shelf) parts each) in
        subst (AllHandOver shelf) (sym is) (all-push IsHandedOver first (as_done settings (end settings s first) e) before behind.0)

pub left-stored : (settings : Settings) (s : State) (t u : Tables) (entries : List Entry) (acknowledged : Shelf) → Legal settings s entries → HasStored acknowledged t → AreStagedStored acknowledged s
    → AllHandOver acknowledged entries → IsLeft settings s t entries u → HasStored acknowledged u
left-stored settings s t u entries acknowledged legal rows staged each left =
    let it = is-front settings s t u entries legal left in
    let (hosted, cached) =
    history-stored acknowledged settings it.history s t (front-stored acknowledged settings s entries it.history it.is each) staged (all-rows (IsStored acknowledged) t rows) in
    subst (HasStored acknowledged) (sym it.left) (rows-all (IsStored acknowledged) (with_items t (told settings s it.history)) hosted cached)

-- so at each moment of a run
pub run-stored : (settings : Settings) (s : State) (t : Tables) (entries : List Entry) (old new : Unsettled) (acknowledged : Shelf) → Legal settings s entries → HasStored acknowledged t
    → AreStagedStored acknowledged s → AllHandOver acknowledged entries → old.pending ≡ None → Rests (Some t) old → CrashesAlong settings s t entries old new
    → FindsAlways (HasStored acknowledged) old.trace new.trace
run-stored settings s t entries old new acknowledged legal rows staged each quiet rests runs =
    finds-more (IsLeftBySome settings s t entries) (HasStored acknowledged) old.trace new.trace
    (λ u so.
    left-stored settings s t u so.0 acknowledged (legal-front settings so.0 so.1 s (subst (Legal settings s) so.2 legal)) rows staged
    (all-split (λ (e : Entry). HandsOver acknowledged e.command) so.0 so.1 (subst (AllHandOver acknowledged) so.2 each)).0 so.3)
    (runs-find settings s t entries old new quiet rests runs)
