-- Which items fit, and what stands where after one that fits.
use Rattle.std.proofs.Common.{◌≡◌, ◌<◌, ℕ, Bool, true, false, not, cond, ◌&&◌, ◌||◌, ◌⊎◌, inl, inr, List, [], ◌∷◌, Option, Some, None, refl, sym, ◌∙◌, ap, subst, option_map, eqb-true}
use Rattle.std.specs.Prelude.{◌==◌, ◌↔◌, nat_lt, IsTrue, find, bytes_eq, is_none, if◌then◌else◌}
use Rattle.std.specs.Option.{option_or}
use Rattle.mvn_digest.specs.declared.known.Further.{Further}
use Rattle.std.specs.List.{AllByRecursion}
use Rattle.std.proofs.lemmas.Bool.{false≢true, and_parts, and_from, lt-ltb, not-true, or_right}
use Rattle.std.proofs.lemmas.List.Folds.{find-append}
use Rattle.repo_model.specs.declared.item.Item.{Item}
use Rattle.repo_model.specs.declared.item.Item.TheVariants.{HostedPut, Faded, Relisted, Removed, CachedFile, CachedDoc, SessionOpened, SessionEnded, Digested}
use Rattle.repo_model.specs.declared.session.SessionResult.{SessionResult}
use Rattle.repo_model.specs.Data.{Row, Phase, listed, fading}
use Rattle.repo_model.specs.Document.{is_listed}
use Rattle.repo_model.specs.Paths.{is_snapshot_path}
use Rattle.repo_model.specs.Effect.{list_again, fade}
use Rattle.repo_model.specs.Prints.{lacks_further}
use Rattle.repo_model.specs.Tables.{Tables, RecordedRow, RecordedSession, recorded_at, change_recorded, is_session, is_listed_row, is_fading_row, is_open_session, digested, lacks_at, with_digests, item_on, fits_on}
use Rattle.repo_laws.specs.Items.{is_place, is_of_row, is_of_file, is_of_document, is_of_session, document_at, completed, lacks_row, row_then, file_then, document_then, session_then}
use Rattle.repo_laws.proofs.Releases.{same_path}
use Rattle.repo_laws.proofs.Lists.{found-passes, all-then, all-list_all}
use Rattle.repo_laws.proofs.HoldingFiles.{document-then}
use Rattle.repo_laws.proofs.HoldingLists.{find-changed, find-change-elsewhere, none-any}
use Rattle.repo_laws.proofs.HoldingOrder.{all-below}
use Rattle.repo_laws.proofs.HoldingRows.{put-then, changed-then, gone-then}
use Rattle.repo_laws.proofs.HoldingSessions.{none-is, none-recorded}

-- which items fit
pub put-fits : (free named : Bool) (found : Option Row) → free ≡ is_none found → (IsTrue (free && not named)) ↔ ((found ≡ None) × (named ≡ false))
put-fits free named found same = (
  λ fits. let (free_is, named_is) = and_parts free (not named) fits in (none-is found (sym same ∙ free_is), not-true named named_is),
  λ both. and_from free (not named) (same ∙ ap is_none both.0) (ap not both.1),
)

listed-is : (phase : Phase) → is_listed phase ≡ true → phase ≡ listed
listed-is listed is = refl
listed-is (fading since) is = absurd (false≢true is)

fading-is : (phase : Phase) → not (is_listed phase) ≡ true → (since : ℕ) × (phase ≡ fading since)
fading-is listed is = absurd (false≢true is)
fading-is (fading since) is = (since, refl)

pub faded-fits : (t : Tables) (repo path : List ℕ) (moment : ℕ) → IsTrue (fits_on t (Faded repo path moment))
    ↔ (IsTrue (is_snapshot_path path) × ((row : Row) × (recorded_at repo path t.hosted ≡ Some row) × (row.phase ≡ listed)))
faded-fits t repo path moment = (
  λ fits.
      let (snapshot, shown) = and_parts (is_snapshot_path path) (is_listed_row (recorded_at repo path t.hosted)) fits in
      (snapshot, by (recorded_at repo path t.hosted) shown),
  λ both.
      let (snapshot, there) = both in
      let (row, found, shown) = there in
      and_from (is_snapshot_path path) (is_listed_row (recorded_at repo path t.hosted)) snapshot (ap is_listed_row found ∙ ap is_listed shown),
) where
  by : (found : Option Row) → is_listed_row found ≡ true → (row : Row) × (found ≡ Some row) × (row.phase ≡ listed)
  by None is = absurd (false≢true is)
  by (Some row) is = (row, refl, listed-is row.phase is)

pub fading-fits : (found : Option Row) → IsTrue (is_fading_row found) ↔ ((row : Row) × (since : ℕ) × (found ≡ Some row) × (row.phase ≡ fading since))
fading-fits found = (
  by found,
  λ there. let (row, since, is, fades_since) = there in ap is_fading_row is ∙ ap (λ phase. not (is_listed phase)) fades_since,
) where
  by : (one : Option Row) → is_fading_row one ≡ true → (row : Row) × (since : ℕ) × (one ≡ Some row) × (row.phase ≡ fading since)
  by None is = absurd (false≢true is)
  by (Some row) is = let (since, fades_since) = fading-is row.phase is in (row, since, refl, fades_since)

pub opened-fits : (t : Tables) (n : ℕ) → IsTrue (fits_on t (SessionOpened n)) ↔ AllByRecursion (λ (one : RecordedSession). one.number < n) t.sessions
opened-fits t n = (
  all-below n t.sessions,
  λ all. all-list_all (λ (one : RecordedSession). nat_lt one.number n) t.sessions
      (all-then (λ (one : RecordedSession). one.number < n) (λ one. nat_lt one.number n ≡ true) (λ one below. lt-ltb one.number n below) t.sessions all),
)

pub ended-fits : (t : Tables) (n : ℕ) (result : SessionResult) → IsTrue (fits_on t (SessionEnded n result)) ↔ (find (is_session n) t.sessions ≡ Some (record { number = n; result = None }))
ended-fits t n result = (
  λ fits.
      elim (find (is_session n) t.sessions)
      as (λ found. find (is_session n) t.sessions ≡ found → is_open_session found ≡ true → found ≡ Some (record { number = n; result = None })) [
        | None ↦ λ _ is. absurd (false≢true is)
        | (Some one) ↦ λ found is.
            let numbered : one.number ≡ n = eqb-true one.number n (found-passes (is_session n) t.sessions one found) in
            let open_still : one.result ≡ None = none-is one.result is in
            let one_is : one ≡ record { number = n; result = None } = λ i. record { number = numbered i; result = open_still i } in
            ap Some one_is
      ] refl fits,
  λ is. ap is_open_session is,
)

-- further digests fit where a row lacks them
lacking-is : (found : Option Row) → lacks_row found ≡ true → (row : Row) × (found ≡ Some row) × IsTrue (lacks_further row.blob.print)
lacking-is None is = absurd (false≢true is)
lacking-is (Some row) is = (row, refl, is)

pub digested-fits : (t : Tables) (repo path : List ℕ) (further : Further) → IsTrue (fits_on t (Digested repo path further))
    ↔ ((row : Row) × ((recorded_at repo path t.hosted ≡ Some row) ⊎ (recorded_at repo path t.cached ≡ Some row)) × IsTrue (lacks_further row.blob.print))
digested-fits t repo path further = (
  λ fits.
      elim (lacks_at repo path t.hosted)
      as (λ b. lacks_at repo path t.hosted ≡ b → (b || lacks_at repo path t.cached) ≡ true
      → (row : Row) × ((recorded_at repo path t.hosted ≡ Some row) ⊎ (recorded_at repo path t.cached ≡ Some row)) × IsTrue (lacks_further row.blob.print)) [
        | true ↦ λ is _. let (row, found, lacks) = lacking-is (recorded_at repo path t.hosted) is in (row, inl found, lacks)
        | false ↦ λ _ is. let (row, found, lacks) = lacking-is (recorded_at repo path t.cached) is in (row, inr found, lacks)
      ] refl fits,
  λ there. let (row, found, lacks) = there in by row lacks found,
) where
  by : (row : Row) → IsTrue (lacks_further row.blob.print) → (recorded_at repo path t.hosted ≡ Some row) ⊎ (recorded_at repo path t.cached ≡ Some row)
      → IsTrue (fits_on t (Digested repo path further))
  by row lacks (inl found) = ap (λ b. b || lacks_at repo path t.cached) (ap lacks_row found ∙ lacks)
  by row lacks (inr found) = or_right (lacks_at repo path t.hosted) (lacks_at repo path t.cached) (ap lacks_row found ∙ lacks)

-- a row that lacks its further digests gets them, and another stays
digested-row : (further : Further) (found : Option Row) → lacks_row found ≡ true → option_map (digested further) found ≡ option_map (completed further) found
digested-row further None is = absurd (false≢true is)
digested-row further (Some row) is = ap (λ b. Some (if b then digested further row else row)) (sym is)

whole-row : (further : Further) (found : Option Row) → lacks_row found ≡ false → found ≡ option_map (completed further) found
whole-row further None is = refl
whole-row further (Some row) is = ap (λ b. Some (if b then digested further row else row)) (sym is)

same-there : (repo path id at : List ℕ) (found : List ℕ → List ℕ → Option Row) → is_place repo path id at ≡ true → found id at ≡ found repo path
same-there repo path id at found is =
    let (repos, paths) = and_parts (bytes_eq repo id) (bytes_eq path at) is in
    ap (λ r. found r at) (sym (same_path repo id repos)) ∙ ap (λ p. found repo p) (sym (same_path path at paths))

module _ (rows : List RecordedRow) (repo path id at : List ℕ) where
  digested-then : (further : Further) → lacks_at repo path rows ≡ true
      → recorded_at id at (change_recorded repo path (digested further) rows) ≡ (if is_place repo path id at then option_map (completed further) (recorded_at id at rows) else recorded_at id at rows)
  digested-then further lacks =
      changed-then rows repo path (digested further) (λ r. refl) id at
      ∙ elim (is_place repo path id at)
      as (λ b. is_place repo path id at ≡ b
      → (if b then option_map (digested further) (recorded_at id at rows) else recorded_at id at rows) ≡ (if b then option_map (completed further) (recorded_at id at rows) else recorded_at id at rows)) [
        | true ↦ λ is. digested-row further (recorded_at id at rows) (ap lacks_row (same-there repo path id at (λ r p. recorded_at r p rows) is) ∙ lacks)
        | false ↦ λ _. refl
      ] refl

  undigested-then : (further : Further) → lacks_at repo path rows ≡ false
      → recorded_at id at rows ≡ (if is_place repo path id at then option_map (completed further) (recorded_at id at rows) else recorded_at id at rows)
  undigested-then further whole =
      elim (is_place repo path id at)
      as (λ b. is_place repo path id at ≡ b → recorded_at id at rows ≡ (if b then option_map (completed further) (recorded_at id at rows) else recorded_at id at rows)) [
        | true ↦ λ is. whole-row further (recorded_at id at rows) (ap lacks_row (same-there repo path id at (λ r p. recorded_at r p rows) is) ∙ whole)
        | false ↦ λ _. refl
      ] refl

pub rows-then : (t : Tables) (item : Item) (id at : List ℕ) → IsTrue (fits_on t item)
    → recorded_at id at (item_on t item).hosted ≡ (if is_of_row id at item then row_then item (recorded_at id at t.hosted) else recorded_at id at t.hosted)
rows-then t (HostedPut repo path blob print accepted) id at fits = put-then t.hosted repo path id at blob print accepted
rows-then t (Faded repo path moment) id at fits = changed-then t.hosted repo path (fade moment) (λ r. refl) id at
rows-then t (Relisted repo path accepted) id at fits = changed-then t.hosted repo path (list_again accepted) (λ r. refl) id at
rows-then t (Removed repo path) id at fits = gone-then t.hosted repo path id at
rows-then t (Digested repo path further) id at fits =
    elim (lacks_at repo path t.hosted)
    as (λ b. lacks_at repo path t.hosted ≡ b
    → recorded_at id at (if b then record t { hosted = change_recorded repo path (digested further) t.hosted } else record t { cached = change_recorded repo path (digested further) t.cached }).hosted
    ≡ (if is_place repo path id at then option_map (completed further) (recorded_at id at t.hosted) else recorded_at id at t.hosted)) [
      | true ↦ λ lacks. digested-then t.hosted repo path id at further lacks
      | false ↦ λ whole. undigested-then t.hosted repo path id at further whole
    ] refl
rows-then t e id at fits = refl

module _ (t : Tables) (repo path id at : List ℕ) (further : Further) where
  abbrev Found : Option Row
  Found = recorded_at id at t.cached

  abbrev Beside : Option Row
  Beside = recorded_at id at t.hosted

  abbrev Given : Option Row
  Given = option_map (completed further) Found

  abbrev FileThen : Option Row
  FileThen = if is_place repo path id at then (if lacks_row Beside then Found else Given) else Found

  hosted-so : is_place repo path id at ≡ true → lacks_row Beside ≡ lacks_at repo path t.hosted
  hosted-so is = ap lacks_row (same-there repo path id at (λ r p. recorded_at r p t.hosted) is)

  as-told : (b : Bool) → lacks_row Beside ≡ b → (if b then Found else Given) ≡ (if lacks_row Beside then Found else Given)
  as-told b is = ap (λ c. if c then Found else Given) (sym is)

  kept-file : lacks_at repo path t.hosted ≡ true → Found ≡ FileThen
  kept-file lacks =
      elim (is_place repo path id at) as (λ here. is_place repo path id at ≡ here → Found ≡ (if here then (if lacks_row Beside then Found else Given) else Found)) [
        | true ↦ λ is. as-told true (hosted-so is ∙ lacks)
        | false ↦ λ _. refl
      ] refl

  given-file : lacks_at repo path t.hosted ≡ false → lacks_at repo path t.cached ≡ true → recorded_at id at (change_recorded repo path (digested further) t.cached) ≡ FileThen
  given-file whole lacks =
      digested-then t.cached repo path id at further lacks
      ∙ elim (is_place repo path id at) as (λ here. is_place repo path id at ≡ here → (if here then Given else Found) ≡ (if here then (if lacks_row Beside then Found else Given) else Found)) [
        | true ↦ λ is. as-told false (hosted-so is ∙ whole)
        | false ↦ λ _. refl
      ] refl

  digested-file : IsTrue (fits_on t (Digested repo path further)) → recorded_at id at (with_digests repo path further t).cached ≡ FileThen
  digested-file fits =
      elim (lacks_at repo path t.hosted)
      as (λ b. lacks_at repo path t.hosted ≡ b
      → recorded_at id at (if b then record t { hosted = change_recorded repo path (digested further) t.hosted } else record t { cached = change_recorded repo path (digested further) t.cached }).cached
      ≡ FileThen) [
        | true ↦ λ lacks. kept-file lacks
        | false ↦ λ whole. given-file whole (ap (λ b. b || lacks_at repo path t.cached) (sym whole) ∙ fits)
      ] refl

pub files-then : (t : Tables) (item : Item) (id at : List ℕ) → IsTrue (fits_on t item)
    → recorded_at id at (item_on t item).cached ≡ (if is_of_file id at item then file_then item (recorded_at id at t.hosted) (recorded_at id at t.cached) else recorded_at id at t.cached)
files-then t (CachedFile repo path blob print accepted) id at fits = put-then t.cached repo path id at blob print accepted
files-then t (Digested repo path further) id at fits = digested-file t repo path id at further fits
files-then t e id at fits = refl

-- further digests leave documents and sessions
digested-rest : (t : Tables) (repo path : List ℕ) (further : Further) → ((with_digests repo path further t).documents ≡ t.documents) × ((with_digests repo path further t).sessions ≡ t.sessions)
digested-rest t repo path further =
    elim (lacks_at repo path t.hosted)
    as (λ b. ((if b then record t { hosted = change_recorded repo path (digested further) t.hosted } else record t { cached = change_recorded repo path (digested further) t.cached }).documents ≡ t.documents)
    × ((if b then record t { hosted = change_recorded repo path (digested further) t.hosted } else record t { cached = change_recorded repo path (digested further) t.cached }).sessions ≡ t.sessions)) [
      | true ↦ (refl, refl)
      | false ↦ (refl, refl)
    ]

-- documents
pub documents-then : (t : Tables) (item : Item) (id at : List ℕ)
    → document_at id at (item_on t item).documents ≡ (if is_of_document id at item then document_then item (document_at id at t.documents) else document_at id at t.documents)
documents-then t (CachedDoc repo path checked document) id at = document-then (record { repo = repo; path = path; checked = checked; document = document }) id at t.documents
documents-then t (Digested repo path further) id at = ap (document_at id at) (digested-rest t repo path further).0
documents-then t e id at = refl

-- sessions
pub sessions-then : (t : Tables) (item : Item) (n : ℕ) → IsTrue (fits_on t item)
    → find (is_session n) (item_on t item).sessions ≡ (if is_of_session n item then session_then item (find (is_session n) t.sessions) else find (is_session n) t.sessions)
sessions-then t (SessionOpened m) n fits =
    let new : RecordedSession = record { number = m; result = None } in
    find-append (is_session n) t.sessions (new ∷ [])
    ∙ elim (m == n)
    as (λ b. (m == n) ≡ b → option_or (find (is_session n) t.sessions) (cond b (Some new) None) ≡ (if b then Some new else find (is_session n) t.sessions)) [
      | true ↦ λ is.
          subst (λ (k : ℕ). option_or (find (is_session k) t.sessions) (Some new) ≡ Some new) (eqb-true m n is)
          (ap (λ found. option_or found (Some new)) (none-any (is_session m) t.sessions (none-recorded m t.sessions (all-below m t.sessions fits))))
      | false ↦ λ _. alone (find (is_session n) t.sessions)
    ] refl where
      alone : (found : Option RecordedSession) → option_or found None ≡ found
      alone None = refl
      alone (Some one) = refl
sessions-then t (SessionEnded m result) n fits =
    let telling : RecordedSession → RecordedSession = λ one. record one { result = Some result } in
    elim (m == n)
    as (λ b. (m == n) ≡ b → find (is_session n) (item_on t (SessionEnded m result)).sessions ≡ (if b then option_map telling (find (is_session n) t.sessions) else find (is_session n) t.sessions)) [
      | true ↦ λ is.
          subst (λ (k : ℕ). find (is_session k) (item_on t (SessionEnded m result)).sessions ≡ option_map telling (find (is_session k) t.sessions)) (eqb-true m n is)
          (find-changed (is_session m) telling (λ x. refl) t.sessions)
      | false ↦ λ other. find-change-elsewhere (is_session n) (is_session m) telling (λ x is. ap (λ k. k == n) (eqb-true x.number m is) ∙ other) (λ x. refl) t.sessions
    ] refl
sessions-then t (Digested repo path further) n fits = ap (find (is_session n)) (digested-rest t repo path further).1
sessions-then t e n fits = refl
