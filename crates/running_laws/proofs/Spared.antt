-- A file that no entry takes away stays recorded, and is answered, after any stop.
use Rattle.std.proofs.Common.{◌≡◌, ◌≢◌, inl, inr, ℕ, Bool, true, false, List, [], ◌∷◌, ◌++◌, Option, Some, None, Ok, refl, sym, subst, ap, ◌∙◌, eqb-true}
use Rattle.std.specs.Prelude.{◌==◌, ◌&&◌, if◌then◌else◌, IsTrue, bytes_eq}
use Rattle.std.specs.Option.{option_map}
use Rattle.std.specs.List.{list_any}
use Rattle.std.proofs.lemmas.Bool.{false≢true, or_parts}
use Rattle.std.proofs.lemmas.List.Sums.{fold-append}
use Rattle.mvn_coords.specs.Kind.{kind}
use Rattle.mvn_coords.specs.declared.kind.Kind.TheVariants.{File}
use Rattle.mvn_coords.specs.Layout.{Coordinates}
use Rattle.repo_model.specs.declared.item.Item.{Item}
use Rattle.repo_model.specs.declared.print.Print.{Print}
use Rattle.repo_model.specs.Command.{is_there, look}
use Rattle.repo_model.specs.Data.{Blob, Row}
use Rattle.repo_model.specs.Effect.{Effect, expires, lends, recorded, with_effect, with_effects, without_row}
use Rattle.repo_model.specs.History.{Entry, Fits, IsReply, Legal, after, effects_of, end, ticked}
use Rattle.repo_model.specs.May.{AllMay, May}
use Rattle.repo_model.specs.Reply.{file, is_free, spent}
use Rattle.repo_model.specs.Restart.{started, with_bytes}
use Rattle.repo_model.specs.Settings.{Settings}
use Rattle.repo_model.specs.State.{State, number_end, row_at, rows_of}
use Rattle.repo_model.specs.Tables.{Tables, item_on, recorded_at}
use Rattle.repo_model.specs.Turn.{Turn, draws_or_spent, is_file, or_nothing, says, seen_at, shows, turn}
use Rattle.repo_laws.specs.Closed.{GivesFile}
use Rattle.repo_laws.specs.Holds.{Holds, InOrder, told, with_items}
use Rattle.repo_laws.specs.InRange.{IsFoundSince, IsSameBlob, IsSince}
use Rattle.repo_laws.specs.Laws.{without_bytes}
use Rattle.repo_laws.specs.Sound.{AreNamedApart, AreProxiesApart, IsSound}
use Rattle.repo_laws.proofs.Closed.{look-gives}
use Rattle.repo_laws.proofs.Completing.{completed-order, completed-range, completed-rows, since-blob}
use Rattle.repo_laws.proofs.Histories.{entry-may}
use Rattle.repo_laws.proofs.Holding.{history-recorded}
use Rattle.repo_laws.proofs.HoldingRows.{there-by-row}
use Rattle.repo_laws.proofs.Keeping.{keeps-sound}
use Rattle.repo_laws.proofs.Lasting.{releases-last}
use Rattle.repo_laws.proofs.Looks.{rows-looked}
use Rattle.repo_laws.proofs.Releases.{is_itself, without-elsewhere}
use Rattle.repo_laws.proofs.Rows.{rows-changed}
use Rattle.repo_laws.proofs.StartedSound.{started-rows, started-sound}
use Rattle.naming_laws.proofs.Kept.{effect-keeps, history-stays}
use Rattle.row_tables.specs.Crashes.{IsOneOf, Rests, Unsettled, left_by}
use Rattle.crash_laws.specs.Found.{IsRecordedAs}
use Rattle.crash_laws.specs.Runs.{FindsAlways, IsLeftBySome, CrashesAlong, tables_after}
use Rattle.crash_laws.specs.Crashes.{IsFrontOf, IsLeft, PendAlong, Pends, as_done, done, fails, front, stays, undone}
use Rattle.crash_laws.proofs.RunLaws.{finds-more, left-between, runs-find}
use Rattle.running_laws.specs.Spared.{IsAnsweredLonger, MayStay, Spares, takes_file}
use Rattle.crash_laws.proofs.Fronts.{failed-records, is-front, legal-front, may-not-go, stays-front}

abbrev StaysAs : List ℕ → List ℕ → Row → State → Type 0
StaysAs repo path row s = (kept : Row) × (row_at path (rows_of repo s) ≡ Some kept) × (kept.blob ≡ row.blob)

module _ (repo path : List ℕ) where
  and-false : (a b : Bool) → (a && b) ≡ false → a ≡ true → b ≡ false
  and-false true b is so = is
  and-false false b is so = absurd (false≢true so)

  -- one effect
  effect-spares : (grace now : ℕ) (s : State) (e : Effect) (row : Row) → May grace now s e → takes_file repo path e ≡ false → row_at path (rows_of repo s) ≡ Some row
      → StaysAs repo path row (with_effect s e)
  effect-spares grace now s (expires at old number) row may other is =
      rows-changed repo at (without_row old) (λ rows. (kept : Row) × (row_at path rows ≡ Some kept) × (kept.blob ≡ row.blob)) s.hosted (row, is, refl)
      (λ here.
      let there : bytes_eq at repo ≡ true = ap (λ (id : List ℕ). bytes_eq id repo) here ∙ is_itself repo in
      let apart : bytes_eq old path ≡ false = and-false (bytes_eq at repo) (bytes_eq old path) other there in
      (row, without-elsewhere path old (λ same. false≢true (sym apart ∙ ap (λ (p : List ℕ). bytes_eq p path) same ∙ is_itself path)) (rows_of repo s) ∙ is, refl))
  effect-spares grace now s e row may other is = effect-keeps grace now s e may refl repo path row is

  effects-spare : (grace now : ℕ) (es : List Effect) (s : State) (row : Row) → AllMay grace now s es → list_any (takes_file repo path) es ≡ false → row_at path (rows_of repo s) ≡ Some row
      → StaysAs repo path row (with_effects s es)
  effects-spare grace now [] s row may none is = (row, is, refl)
  effects-spare grace now (e ∷ es) s row may none is =
      let parts = or_parts (takes_file repo path e) (list_any (takes_file repo path) es) none in
      let (next, found_next, same_next) = effect-spares grace now s e row may.0 parts.0 is in
      let (kept, found, same) = effects-spare grace now es (with_effect s e) next may.1 parts.1 found_next in
      (kept, found, same ∙ same_next)

module _ (settings : Settings) (repo path : List ℕ) where
  -- one entry, and entries
  entry-spares : (s : State) (e : Entry) (row : Row) → AreNamedApart settings.hosted → IsSound settings s → Fits settings s e
      → list_any (takes_file repo path) (turn settings s e.moment e.command).effects ≡ false → row_at path (rows_of repo s) ≡ Some row → StaysAs repo path row (after settings s e)
  entry-spares s e row apart sound fits none is =
      effects-spare repo path settings.grace e.moment (effects_of settings s e) (ticked s e.moment e.faults) row (entry-may settings apart s e sound.order fits)
      (elim (is_free e.reply) as (λ b. list_any (takes_file repo path) (if b then [] else (turn settings s e.moment e.command).effects) ≡ false) [
        | true ↦ refl
        | false ↦ none
      ]) is

  history-spares : (entries : List Entry) (s : State) (row : Row) → AreNamedApart settings.hosted → IsSound settings s → Legal settings s entries → Spares settings s repo path entries
      → row_at path (rows_of repo s) ≡ Some row → StaysAs repo path row (end settings s entries)
  history-spares [] s row apart sound legal spares is = (row, is, refl)
  history-spares (e ∷ entries) s row apart sound legal spares is =
      let (next, found_next, same_next) = entry-spares s e row apart sound legal.0 spares.0 is in
      let (kept, found, same) = history-spares entries (after settings s e) next apart (keeps-sound settings apart s e sound legal.0) legal.1 spares.1 found_next in
      (kept, found, same ∙ same_next)

  pub row-stays : (s : State) (entries : List Entry) (row : Row) → AreNamedApart settings.hosted → IsSound settings s → Legal settings s entries → MayStay settings s repo path entries
      → row_at path (rows_of repo s) ≡ Some row → StaysAs repo path row (end settings s entries)
  row-stays s entries row apart sound legal (inl (inl none)) is = history-stays settings s entries apart sound legal none repo path row is
  row-stays s entries row apart sound legal (inl (inr release)) is = (row, releases-last settings apart entries s sound.order sound.fading legal repo path row release is, refl)
  row-stays s entries row apart sound legal (inr spares) is = history-spares entries s row apart sound legal spares is

  -- the first ones, and the first ones with the next, which failed, as done
  spares-front : (xs ys : List Entry) (s : State) → Spares settings s repo path (xs ++ ys) → Spares settings s repo path xs
  spares-front [] ys s spares = tt
  spares-front (x ∷ xs) ys s spares = (spares.0, spares-front xs ys (after settings s x) spares.1)

  spares-done : (xs ys : List Entry) (e : Entry) (s : State) → Spares settings s repo path (xs ++ e ∷ ys) → Spares settings s repo path (xs ++ as_done settings (end settings s xs) e ∷ [])
  spares-done [] ys e s spares = (spares.0, tt)
  spares-done (x ∷ xs) ys e s spares = (spares.0, spares-done xs ys e (after settings s x) spares.1)

  spares-left : (s : State) (entries history : List Entry) → IsFrontOf settings s entries history → Spares settings s repo path entries → Spares settings s repo path history
  spares-left s entries history (front rest is) spares = spares-front history rest s (subst (Spares settings s repo path) is spares)
  spares-left s entries history (done first rest e parts failed is) spares =
      subst (Spares settings s repo path) (sym is) (spares-done first rest e s (subst (Spares settings s repo path) parts spares))

  stay-left : (s : State) (entries history : List Entry) → IsFrontOf settings s entries history → MayStay settings s repo path entries → MayStay settings s repo path history
  stay-left s entries history is (inl stay) = inl (may-not-go settings s entries history path is stay)
  stay-left s entries history is (inr spares) = inr (spares-left s entries history is spares)

  stay-front : (xs ys : List Entry) (s : State) → MayStay settings s repo path (xs ++ ys) → MayStay settings s repo path xs
  stay-front xs ys s (inl stay) = inl (stays-front settings xs ys path stay)
  stay-front xs ys s (inr spares) = inr (spares-front xs ys s spares)

-- what stands is recorded after them, and in whatever a crash leaves
stays-recorded : (settings : Settings) (s : State) (t : Tables) (entries : List Entry) (repo : List ℕ) (row : Row) → AreNamedApart settings.hosted → IsSound settings s → InOrder t → Holds t s
    → Legal settings s entries → MayStay settings s repo row.path entries → row_at row.path (rows_of repo s) ≡ Some row → IsRecordedAs repo row (with_items t (told settings s entries))
stays-recorded settings s t entries repo row apart sound ordered holds legal stay is =
    let (kept, at, same) = row-stays settings repo row.path s entries row apart sound legal stay is in
    let held : Holds (with_items t (told settings s entries)) (end settings s entries) =
    (history-recorded settings apart entries s t legal sound.order sound.places sound.sessions ordered holds).2 in (
      without_bytes kept,
      held.rows repo row.path (there-by-row repo row.path (end settings s entries).hosted kept at) ∙ ap (option_map without_bytes) at,
      ap (λ (b : Blob). b.number) same,
      ap (λ (b : Blob). b.print) same,
    )

left-so : (settings : Settings) (s : State) (t u : Tables) (entries : List Entry) (repo : List ℕ) (row : Row) → AreNamedApart settings.hosted → IsSound settings s → InOrder t
    → Holds t s → Legal settings s entries → MayStay settings s repo row.path entries → row_at row.path (rows_of repo s) ≡ Some row → IsLeft settings s t entries u → IsRecordedAs repo row u
left-so settings s t u entries repo row apart sound ordered holds legal stay is left =
    let front = is-front settings s t u entries legal left in
    subst (IsRecordedAs repo row) (sym front.left)
    (stays-recorded settings s t front.history repo row apart sound ordered holds front.legal (stay-left settings repo row.path s entries front.history front.is stay) is)

-- along a run
run-so : (settings : Settings) (s : State) (t : Tables) (entries : List Entry) (a b : Unsettled) (repo : List ℕ) (row : Row) → AreNamedApart settings.hosted → IsSound settings s → InOrder t → Holds t s
    → Legal settings s entries → MayStay settings s repo row.path entries → row_at row.path (rows_of repo s) ≡ Some row → a.pending ≡ None → Rests (Some t) a → CrashesAlong settings s t entries a b
    → FindsAlways (IsRecordedAs repo row) a.trace b.trace
run-so settings s t entries a b repo row apart sound ordered holds legal stay is quiet rests runs =
    finds-more (IsLeftBySome settings s t entries) (IsRecordedAs repo row) a.trace b.trace
    (λ u so. left-so settings s t u so.0 repo row apart sound ordered holds (legal-front settings so.0 so.1 s (subst (Legal settings s) so.2 legal))
    (stay-front settings repo row.path so.0 so.1 s (subst (MayStay settings s repo row.path) so.2 stay)) is so.3)
    (runs-find settings s t entries a b quiet rests runs)

-- where an entry recorded something, nothing is pending after it
settled-by : (settings : Settings) (s : State) (e : Entry) (old new : Option (List Item)) → recorded (effects_of settings s e) ≢ [] → Pends settings s e old new → new ≡ None
settled-by settings s e old new some (undone none) = none
settled-by settings s e old new some (stays quiet other same) = absurd (some quiet)
settled-by settings s e old new some (fails failed pends) = absurd (some (failed-records settings s e failed))

one-told : (settings : Settings) (e : Entry) (s : State) (t : Tables) → with_items t (told settings s (e ∷ [])) ≡ tables_after settings s e t
one-told settings e s t = fold-append item_on t (recorded (effects_of settings s e)) []

entry-so : (settings : Settings) (s : State) (t : Tables) (e : Entry) (later : List Entry) (old a b : Unsettled) (repo : List ℕ) (row : Row) → AreNamedApart settings.hosted → IsSound settings s → InOrder t → Holds t s
    → Legal settings s (e ∷ later) → MayStay settings (after settings s e) repo row.path later → recorded (effects_of settings s e) ≢ [] → row_at row.path (rows_of repo (after settings s e)) ≡ Some row
    → CrashesAlong settings s t (e ∷ []) old a → CrashesAlong settings (after settings s e) (tables_after settings s e t) later a b → FindsAlways (IsRecordedAs repo row) a.trace b.trace
entry-so settings s t e later old a b repo row apart sound ordered holds legal stay some is (mid, did, last) runs =
    let made = history-recorded settings apart (e ∷ []) s t (legal.0, tt) sound.order sound.places sound.sessions ordered holds in
    let same : with_items t (told settings s (e ∷ [])) ≡ tables_after settings s e t = one-told settings e s t in
    let rests : Rests (Some (tables_after settings s e t)) a = subst (Rests (Some (tables_after settings s e t))) (sym last) did.rests in
    let quiet : a.pending ≡ None = ap (λ (w : Unsettled). w.pending) last ∙ settled-by settings s e old.pending mid.pending some did.pends in
    run-so settings (after settings s e) (tables_after settings s e t) later a b repo row apart (keeps-sound settings apart s e sound legal.0)
    (subst InOrder same made.1) (subst (λ u. Holds u (after settings s e)) same made.2) legal.1 stay is quiet rests runs

-- who looks at a row is given it
module _ (settings : Settings) (s : State) (e : Entry) (repo at tried : List ℕ) where
  gives : (c : Coordinates) (row : Row) → IsReply settings s e → e.command ≡ look repo at tried → kind at ≡ Ok (File c) → row_at at (rows_of repo s) ≡ Some row
      → GivesFile s row.blob e.reply
  gives c row is looks kind_is found =
      let next = s.yard.next_lease in
      let given : Turn = record { reply = file next row.blob; effects = lends row.blob.number ∷ [] } in
      let turn_is : turn settings s e.moment (look repo at tried) ≡ draws_or_spent next given =
      ap (shows settings s.yard) (rows-looked settings s e.moment repo tried at at row found
      ∙ ap (seen_at (rows_of repo s) at) kind_is ∙ ap (or_nothing (λ (x : Row). is_file x.blob)) found) in
      look-gives settings s e repo at tried (GivesFile s row.blob) (draws_or_spent next given) tt turn_is
      (elim (next == number_end) as (λ b. recorded (if b then says spent else given).effects ≡ []) [ true ↦ refl | false ↦ refl ])
      (elim (next == number_end) as (λ b. (next == number_end) ≡ b → GivesFile s row.blob (if b then says spent else given).reply) [ true ↦ λ last. eqb-true next number_end last | false ↦ λ _. refl ] refl)
      is looks

pub cut : (settings : Settings) (before : List Entry) (e : Entry) (rest : List Entry) (s : State) → Legal settings s (before ++ e ∷ rest)
    → Legal settings s before × Fits settings (end settings s before) e
cut settings [] e rest s legal = (tt, legal.0)
cut settings (b ∷ before) e rest s legal = let r = cut settings before e rest (after settings s b) legal.1 in ((legal.0, r.0), r.1)

-- a start over what is found answers it
answered-longer : (settings : Settings) (u : Tables) (repo : List ℕ) (row : Row) (c : Coordinates) → AreNamedApart settings.hosted → AreProxiesApart settings.proxies → IsTrue (is_there repo settings)
    → kind row.path ≡ Ok (File c) → IsRecordedAs repo row u → IsAnsweredLonger settings repo row u
answered-longer settings u repo row c apart proxies there kind_is (recorded_row, recorded_so, number, print) tells stored clock faults whole before rest e tried order range completes legal stay looks =
    let s : State = started settings tells stored clock faults whole in
    let parts = cut settings before e rest s legal in
    let (first, at, since) = subst (IsFoundSince (recorded_at repo row.path whole.hosted)) recorded_so (completed-rows u whole completes repo row.path) in
    let blob_is : IsSameBlob first.blob recorded_row.blob = since-blob first recorded_row since in
    let here : row_at row.path (rows_of repo s) ≡ Some (with_bytes tells first) =
    started-rows settings tells stored clock faults whole repo row.path
    ∙ ap (λ b. if b then option_map (with_bytes tells) (recorded_at repo row.path whole.hosted) else None) there
    ∙ ap (option_map (with_bytes tells)) at in
    let sound = started-sound settings tells stored clock faults whole apart proxies (completed-order u whole completes order) (completed-range u whole completes range) in
    let (kept, found, same) = row-stays settings repo row.path s before (with_bytes tells first) apart sound parts.0 stay here in (
      kept.blob,
      (
        (
          ap (λ (b : Blob). b.number) same ∙ blob_is.0 ∙ number,
          subst (λ (p : Print). IsSince p row.blob.print) (sym (ap (λ (b : Blob). b.print) same)) (subst (IsSince first.blob.print) print blob_is.1),
        ),
        ap (λ (b : Blob). b.bytes) same ∙ ap tells (blob_is.0 ∙ number),
      ),
      gives settings (end settings s before) e repo row.path tried c kept parts.1.reply looks kind_is found,
    )

pub entry-longer : (settings : Settings) (s : State) (t : Tables) (e : Entry) (later : List Entry) (old a b : Unsettled) (repo : List ℕ) (row : Row) (c : Coordinates) → AreNamedApart settings.hosted
    → AreProxiesApart settings.proxies → IsSound settings s → InOrder t → Holds t s → Legal settings s (e ∷ later) → MayStay settings (after settings s e) repo row.path later → IsTrue (is_there repo settings)
    → kind row.path ≡ Ok (File c) → recorded (effects_of settings s e) ≢ [] → row_at row.path (rows_of repo (after settings s e)) ≡ Some row
    → CrashesAlong settings s t (e ∷ []) old a → CrashesAlong settings (after settings s e) (tables_after settings s e t) later a b → FindsAlways (IsAnsweredLonger settings repo row) a.trace b.trace
entry-longer settings s t e later old a b repo row c apart proxies sound ordered holds legal stay there named some is made runs =
    finds-more (IsRecordedAs repo row) (IsAnsweredLonger settings repo row) a.trace b.trace (λ u found. answered-longer settings u repo row c apart proxies there named found)
    (entry-so settings s t e later old a b repo row apart sound ordered holds legal stay some is made runs)

pub left-longer : (settings : Settings) (s : State) (t u : Tables) (e : Entry) (later : List Entry) (old mid new : Option (List Item)) (repo : List ℕ) (row : Row) (c : Coordinates) → AreNamedApart settings.hosted
    → AreProxiesApart settings.proxies → IsSound settings s → InOrder t → Holds t s → Legal settings s (e ∷ later) → MayStay settings (after settings s e) repo row.path later → IsTrue (is_there repo settings)
    → kind row.path ≡ Ok (File c) → recorded (effects_of settings s e) ≢ [] → row_at row.path (rows_of repo (after settings s e)) ≡ Some row → Pends settings s e old mid
    → PendAlong settings (after settings s e) later mid new → IsOneOf u (left_by (with_items (tables_after settings s e t) (told settings (after settings s e) later)) new)
    → IsAnsweredLonger settings repo row u
left-longer settings s t u e later old mid new repo row c apart proxies sound ordered holds legal stay there named some is pends along left =
    let made = history-recorded settings apart (e ∷ []) s t (legal.0, tt) sound.order sound.places sound.sessions ordered holds in
    let same : with_items t (told settings s (e ∷ [])) ≡ tables_after settings s e t = one-told settings e s t in
    let along' : PendAlong settings (after settings s e) later None new =
    subst (λ (p : Option (List Item)). PendAlong settings (after settings s e) later p new) (settled-by settings s e old mid some pends) along in
    answered-longer settings u repo row c apart proxies there named
    (left-so settings (after settings s e) (tables_after settings s e t) u later repo row apart (keeps-sound settings apart s e sound legal.0)
    (subst InOrder same made.1) (subst (λ x. Holds x (after settings s e)) same made.2) legal.1 stay is
    (left-between settings (after settings s e) (tables_after settings s e t) u later new along' left))
