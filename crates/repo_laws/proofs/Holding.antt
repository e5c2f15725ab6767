-- Tables that hold a state hold it after each effect and its item, after each entry, and through histories.
use native.Mathlib.Omega.{arith}
use Rattle.std.proofs.Common.{◌≡◌, ◌≤◌, ◌<◌, ◌+◌, ℕ, true, false, not, ◌&&◌, List, [], ◌∷◌, ◌++◌, map, length, Option, None, Ok, Err, refl, sym, ◌∙◌, ap, subst}
use Rattle.std.specs.Prelude.{◌==◌, nat_lt, IsTrue, is_none, if◌then◌else◌}
use Rattle.std.specs.Option.{option_map}
use Rattle.std.specs.List.{list_any}
use Rattle.std.proofs.lemmas.Bool.{false≢true, and_from, eq-eqb, lt-ltb, false_from_ne_true}
use Rattle.std.proofs.lemmas.List.Sums.{fold-append}
use Rattle.outside.specs.Moments.{Moments}
use Rattle.repo_model.specs.declared.item.Item.{Item}
use Rattle.repo_model.specs.declared.item.Item.TheVariants.{HostedPut, Faded, Relisted, Removed, CachedFile}
use Rattle.repo_model.specs.declared.session.SessionResult.{SessionResult}
use Rattle.repo_model.specs.Data.{Blob, Hosted, Proxy}
use Rattle.repo_model.specs.Document.{is_listed}
use Rattle.repo_model.specs.Paths.{is_snapshot_path}
use Rattle.repo_model.specs.Settings.{Settings}
use Rattle.repo_model.specs.Prints.{recorded_print}
use Rattle.repo_model.specs.State.{State, opening, new_hosted, is_repository, is_staged, is_open_at, row_at, rows_of, new_proxy}
use Rattle.repo_model.specs.Effect.{Effect, draws, drops, creates, stages, delivers, discards, relists, fades, expires, forgets, lends, returns, opens, ends, with_staged, without_staged, list_again, fade, with_effect, with_effects, items_of, recorded, caches, keeps_doc, adds_negative, clears_negative, proxy_after}
use Rattle.repo_model.specs.May.{May, AllMay}
use Rattle.repo_model.specs.Reply.{is_free}
use Rattle.repo_model.specs.Turn.{turn}
use Rattle.repo_model.specs.History.{Entry, Fits, Legal, ticked, effects_of, after, end}
use Rattle.repo_model.specs.Tables.{Tables, RecordedRow, RecordedDocument, RecordedSession, no_tables, recorded_at, recorded_row, is_recorded, names_blob, is_fading_row, is_listed_row, is_open_session, moment_of, item_on, fits_on, applied_from, applied}
use Rattle.repo_laws.specs.Laws.{rows_with, cached_with, without_bytes}
use Rattle.repo_laws.specs.Sound.{AreNamedApart, Sound, OnePlace}
use Rattle.repo_laws.specs.Numbered.{Numbered}
use Rattle.repo_laws.specs.Holds.{InOrder, Holds, StandsFor, named_in, loose_in, with_items, told}
use Rattle.repo_laws.proofs.Counts.{one_if, among-counts, given-up, count-with_number, count-with_recorded, found-goes, staged-counted, stages_it}
use Rattle.repo_laws.proofs.Rows.{all-part}
use Rattle.repo_laws.proofs.ByPath.{all-apart}
use Rattle.repo_laws.proofs.Places.{one-place-kept}
use Rattle.repo_laws.proofs.Orderly.{sound-kept}
use Rattle.repo_laws.proofs.Lists.{all-then, all-list_all}
use Rattle.repo_laws.proofs.Histories.{all-keep, entry-may, sound-entry, sound-ticked, moment-rises, one-place-entry, one-place-ticked}
use Rattle.repo_laws.proofs.HoldingLists.{all-filter, all-map, found-any}
use Rattle.repo_laws.proofs.HoldingOrder.{all-with_document, changed-count, ordered-kept}
use Rattle.repo_laws.proofs.HoldingRows.{RowsHeld, held-new, held-changed, held-gone, recorded-row}
use Rattle.repo_laws.proofs.HoldingSessions.{SessionsHeld, numbered-kept, sessions-staged, sessions-opened, sessions-ended, all-below-next}
use Rattle.repo_laws.proofs.HoldingBlobs.{BlobsHeld, MomentsHeld, named-counts, counts-named, blobs-new, blobs-same, blobs-gone, loose-kept, moments-all, all-moments, moments-new, moments-relisted, moments-faded, row-gone}
use Rattle.repo_laws.specs.Files.{FilesHeld, DocumentsHeld}
use Rattle.repo_laws.proofs.HoldingFiles.{files-held-kept, documents-held-kept, opening-files, opening-documents}
use Rattle.repo_laws.proofs.Files.{cached-stays}
use Rattle.mvn_metadata.specs.Document.{Document}

-- the parts, as lists have them
record Parts (t : Tables) (s : State) : Type 0 where
  rows : RowsHeld t.hosted s.hosted
  sessions : SessionsHeld t.sessions s.sessions s.yard.next_session
  blobs : BlobsHeld (named_in t) s
  moments : MomentsHeld t s.last

parts-of : (t : Tables) (s : State) → Holds t s → Parts t s
parts-of t s held = record {
  rows = held.rows;
  sessions = record { ended = held.ended; opened = held.opened; next_session = held.next_session };
  blobs = λ n some. let named = counts-named n t some in (held.drawn n named, held.loose n named);
  moments = moments-all t s.last held.moments;
}

from-parts : (t : Tables) (s : State) → Parts t s → FilesHeld t.cached s.proxies → DocumentsHeld t.documents s.proxies → Holds t s
from-parts t s parts files documents = record {
  rows = parts.rows;
  files = files;
  documents = documents;
  ended = parts.sessions.ended;
  opened = parts.sessions.opened;
  next_session = parts.sessions.next_session;
  drawn = λ n named. (parts.blobs n (named-counts n t named)).0;
  loose = λ n named. (parts.blobs n (named-counts n t named)).1;
  moments = all-moments t s.last parts.moments;
}

-- items that fit one after another
abbrev pub AllFit : Tables → List Item → Type 0
AllFit t [] = Unit {0}
AllFit t (item ∷ items) = IsTrue (fits_on t item) × AllFit (item_on t item) items

module _ (grace now : ℕ) (s : State) (t : Tables) (up : now ≤ s.last) (placed : OnePlace s) (numbered : Numbered s) (ordered : InOrder t) (parts : Parts t s) (files : FilesHeld t.cached s.proxies) where
  abbrev Goal : Effect → Type 0
  Goal e = AllFit t (items_of e) × Parts (with_items t (items_of e)) (with_effect s e)

  unnamed : (n : ℕ) → 0 < loose_in s n → names_blob n t ≡ false
  unnamed n some = false_from_ne_true (names_blob n t) (λ named. omega (arith, some, (parts.blobs n (named-counts n t named)).1))

  free-here : (repo path : List ℕ) (blob : ℕ) → list_any (is_repository repo) s.hosted ≡ true → row_at path (rows_of repo s) ≡ None → 0 < loose_in s blob
      → (is_none (recorded_at repo path t.hosted) && not (names_blob blob t)) ≡ true
  free-here repo path blob there free some =
      and_from (is_none (recorded_at repo path t.hosted)) (not (names_blob blob t)) (ap is_none (parts.rows repo path there ∙ ap (option_map without_bytes) free)) (ap not (unnamed blob some))

  -- an effect that records nothing and changes no row, no session and no file of a proxy
  quiet : (e : Effect) → items_of e ≡ [] → May grace now s e → (with_effect s e).hosted ≡ s.hosted → ((n : ℕ) → cached_with n s.proxies ≤ cached_with n (with_effect s e).proxies)
      → SessionsHeld t.sessions (with_effect s e).sessions (with_effect s e).yard.next_session → Parts t (with_effect s e)
  quiet e none may hosted cached sessions = record {
    rows = subst (RowsHeld t.hosted) (sym hosted) parts.rows;
    sessions = sessions;
    blobs = blobs-same s e (named_in t) (named_in t) (loose-kept s grace now e may (λ n. ap (rows_with n) hosted) cached) (λ n. omega arith) parts.blobs;
    moments = parts.moments;
  }

  created : (repo path : List ℕ) (blob : Blob) (moment : ℕ) → May grace now s (creates repo path blob moment) → Goal (creates repo path blob moment)
  created repo path blob moment may =
      let (at_now, there, among, free) = may in
      let new : RecordedRow = recorded_row repo path blob.number (recorded_print blob.print) moment in (
        (free-here repo path blob.number there free (omega (arith, among-counts blob.number s.yard.drafts among)), tt),
        record {
          rows = held-new t.hosted s.hosted repo path blob moment parts.rows there free;
          sessions = record { ended = parts.sessions.ended; opened = parts.sessions.opened; next_session = parts.sessions.next_session };
          blobs = blobs-new s (with_effect s (creates repo path blob moment)) blob.number (named_in t) (named_in (item_on t (HostedPut repo path blob.number (recorded_print blob.print) moment))) placed
              (λ n. omega (arith, given-up n blob.number s.yard.drafts among)) (omega arith) (λ n. omega (arith, count-with_recorded (λ r. r.row.blob.number == n) new t.hosted)) parts.blobs;
          moments = (moments-new t.hosted repo path moment s.last (omega (arith, at_now, up)) new refl parts.moments.0, parts.moments.1, parts.moments.2);
        },
      )

  delivered : (m : ℕ) (repo path : List ℕ) (blob : Blob) (moment : ℕ) → May grace now s (delivers m repo path blob moment) → Goal (delivers m repo path blob moment)
  delivered m repo path blob moment may =
      let (one, at_now, there, found, is, free) = may in
      let new : RecordedRow = recorded_row repo path blob.number (recorded_print blob.print) moment in
      let fewer : (n : ℕ) → loose_in (with_effect s (delivers m repo path blob moment)) n + one_if (blob.number == n) ≤ loose_in s n =
      λ n. omega (
        arith,
        staged-counted n (is_open_at m) (without_staged path) (one_if (blob.number == n)) 0 s.sessions one found
            (omega (arith, found-goes (stages_it n) (is_staged path) one.staged (record { path = path; blob = blob }) is)),
      ) in
      let itself : one_if (blob.number == blob.number) ≡ 1 = ap one_if (eq-eqb blob.number blob.number refl) in (
        (free-here repo path blob.number there free (omega (arith, fewer blob.number, itself)), tt),
        record {
          rows = held-new t.hosted s.hosted repo path blob moment parts.rows there free;
          sessions = sessions-staged m (without_staged path) (λ x. refl) (λ x. refl) t.sessions s.sessions s.yard.next_session parts.sessions;
          blobs = blobs-new s (with_effect s (delivers m repo path blob moment)) blob.number (named_in t) (named_in (item_on t (HostedPut repo path blob.number (recorded_print blob.print) moment))) placed
              fewer (omega arith) (λ n. omega (arith, count-with_recorded (λ r. r.row.blob.number == n) new t.hosted)) parts.blobs;
          moments = (moments-new t.hosted repo path moment s.last (omega (arith, at_now, up)) new refl parts.moments.0, parts.moments.1, parts.moments.2);
        },
      )

  relisted : (repo path : List ℕ) (moment : ℕ) → May grace now s (relists repo path moment) → Goal (relists repo path moment)
  relisted repo path moment may =
      let (row, since, at_now, found, fades_since) = may in (
        (ap is_fading_row (recorded-row t.hosted s.hosted repo path parts.rows row found) ∙ ap (λ phase. not (is_listed phase)) fades_since, tt),
        record {
          rows = held-changed t.hosted s.hosted repo path (list_again moment) (λ r. refl) (λ r. refl) parts.rows row found;
          sessions = record { ended = parts.sessions.ended; opened = parts.sessions.opened; next_session = parts.sessions.next_session };
          blobs = blobs-same s (relists repo path moment) (named_in t) (named_in (item_on t (Relisted repo path moment))) (λ n. omega arith)
              (λ n. omega (arith, changed-count repo path (list_again moment) (λ r. refl) n t.hosted)) parts.blobs;
          moments = (moments-relisted t.hosted repo path moment s.last (omega (arith, at_now, up)) parts.moments.0, parts.moments.1, parts.moments.2);
        },
      )

  faded : (repo path : List ℕ) (moment : ℕ) → May grace now s (fades repo path moment) → Goal (fades repo path moment)
  faded repo path moment may =
      let (at_now, snapshot, there) = may in
      let (row, found, shown) = there in (
        (
          and_from (is_snapshot_path path) (is_listed_row (recorded_at repo path t.hosted)) snapshot
              (ap is_listed_row (recorded-row t.hosted s.hosted repo path parts.rows row found) ∙ ap is_listed shown),
          tt,
        ),
        record {
          rows = held-changed t.hosted s.hosted repo path (fade moment) (λ r. refl) (λ r. refl) parts.rows row found;
          sessions = record { ended = parts.sessions.ended; opened = parts.sessions.opened; next_session = parts.sessions.next_session };
          blobs = blobs-same s (fades repo path moment) (named_in t) (named_in (item_on t (Faded repo path moment))) (λ n. omega arith)
              (λ n. omega (arith, changed-count repo path (fade moment) (λ r. refl) n t.hosted)) parts.blobs;
          moments = (moments-faded t.hosted repo path moment s.last (omega (arith, at_now, up)) parts.moments.0, parts.moments.1, parts.moments.2);
        },
      )

  expired : (repo path : List ℕ) (blob : ℕ) → May grace now s (expires repo path blob) → Goal (expires repo path blob)
  expired repo path blob may =
      let (row, since, found, fades_since, named, over) = may in
      let there = recorded-row t.hosted s.hosted repo path parts.rows row found in
      let same : (n : ℕ) → one_if (row.blob.number == n) ≡ one_if (blob == n) = λ n. ap (λ k. one_if (k == n)) named in (
        (ap is_fading_row there ∙ ap (λ phase. not (is_listed phase)) fades_since, tt),
        record {
          rows = held-gone t.hosted s.hosted repo path parts.rows row found;
          sessions = record { ended = parts.sessions.ended; opened = parts.sessions.opened; next_session = parts.sessions.next_session };
          blobs = blobs-gone s (with_effect s (expires repo path blob)) blob (named_in t) (named_in (item_on t (Removed repo path))) ordered.blobs
              (λ n. omega (arith, count-with_number n blob s.yard.condemned)) (omega arith)
              (λ n. omega (arith, row-gone repo path n t.hosted (without_bytes row) there, same n)) parts.blobs;
          moments = (all-filter (λ (r : RecordedRow). moment_of r.row ≤ s.last) (λ r. not (is_recorded repo path r)) t.hosted parts.moments.0, parts.moments.1, parts.moments.2);
        },
      )

  opened : (n : ℕ) (repo : List ℕ) → May grace now s (opens n repo) → Goal (opens n repo)
  opened n repo may =
      let held : SessionsHeld t.sessions s.sessions n = subst (SessionsHeld t.sessions s.sessions) (sym may.0) parts.sessions in (
        (
          all-list_all (λ (one : RecordedSession). nat_lt one.number n) t.sessions
              (all-then (λ (one : RecordedSession). one.number < n) (λ one. nat_lt one.number n ≡ true) (λ one below. lt-ltb one.number n below) t.sessions (all-below-next n t.sessions held.next_session)),
          tt,
        ),
        record {
          rows = parts.rows;
          sessions = sessions-opened n repo t.sessions s.sessions held;
          blobs = blobs-same s (opens n repo) (named_in t) (named_in t) (loose-kept s grace now (opens n repo) may (λ k. refl) (λ k. omega arith)) (λ k. omega arith) parts.blobs;
          moments = parts.moments;
        },
      )

  ended : (n : ℕ) (result : SessionResult) → May grace now s (ends n result) → Goal (ends n result)
  ended n result may =
      let (one, found, _) = may in
      let there = found-any (is_open_at n) s.sessions one found in (
        (ap is_open_session (parts.sessions.opened n there), tt),
        record {
          rows = parts.rows;
          sessions = sessions-ended n result t.sessions s.sessions s.yard.next_session there numbered.apart parts.sessions;
          blobs = blobs-same s (ends n result) (named_in t) (named_in t) (loose-kept s grace now (ends n result) may (λ k. refl) (λ k. omega arith)) (λ k. omega arith) parts.blobs;
          moments = parts.moments;
        },
      )

  cached : (id path : List ℕ) (blob : Blob) (moment : ℕ) → May grace now s (caches id path blob moment) → Goal (caches id path blob moment)
  cached id path blob moment may =
      let (at_now, there, among, free) = may in
      let new : RecordedRow = recorded_row id path blob.number (recorded_print blob.print) moment in (
        (
          and_from (is_none (recorded_at id path t.cached)) (not (names_blob blob.number t)) (ap is_none (files id path there ∙ ap (option_map without_bytes) free))
              (ap not (unnamed blob.number (omega (arith, among-counts blob.number s.yard.drafts among)))),
          tt,
        ),
        record {
          rows = parts.rows;
          sessions = record { ended = parts.sessions.ended; opened = parts.sessions.opened; next_session = parts.sessions.next_session };
          blobs = blobs-new s (with_effect s (caches id path blob moment)) blob.number (named_in t) (named_in (item_on t (CachedFile id path blob.number (recorded_print blob.print) moment))) placed
              (λ n. omega (arith, given-up n blob.number s.yard.drafts among)) (omega arith) (λ n. omega (arith, count-with_recorded (λ r. r.row.blob.number == n) new t.cached)) parts.blobs;
          moments = (parts.moments.0, moments-new t.cached id path moment s.last (omega (arith, at_now, up)) new refl parts.moments.1, parts.moments.2);
        },
      )

  kept : (id path : List ℕ) (document : Document) (moment : ℕ) → May grace now s (keeps_doc id path document moment) → Goal (keeps_doc id path document moment)
  kept id path document moment may = (
    (refl, tt),
    record {
      rows = parts.rows;
      sessions = record { ended = parts.sessions.ended; opened = parts.sessions.opened; next_session = parts.sessions.next_session };
      blobs = blobs-same s (keeps_doc id path document moment) (named_in t) (named_in t)
          (loose-kept s grace now (keeps_doc id path document moment) may (λ k. refl) (λ k. cached-stays k id (proxy_after (keeps_doc id path document moment)) (λ p. omega arith) s.proxies))
          (λ k. omega arith) parts.blobs;
      moments = (parts.moments.0, parts.moments.1, all-with_document (λ (d : RecordedDocument). d.checked ≤ s.last) (record { repo = id; path = path; checked = moment; document = document }) t.documents parts.moments.2 (omega (arith, may.0, up)));
    },
  )

  step : (e : Effect) → May grace now s e → Goal e
  step draws may = (tt, quiet draws refl may refl (λ k. omega arith) parts.sessions)
  step (drops n) may = (tt, quiet (drops n) refl may refl (λ k. omega arith) parts.sessions)
  step (creates repo path blob moment) may = created repo path blob moment may
  step (stages n path blob) may = (
    tt,
    quiet (stages n path blob) refl may refl (λ k. omega arith)
        (sessions-staged n (λ session. record session { staged = with_staged (record { path = path; blob = blob }) session.staged }) (λ x. refl) (λ x. refl) t.sessions s.sessions s.yard.next_session parts.sessions),
  )
  step (delivers n repo path blob moment) may = delivered n repo path blob moment may
  step (discards n path draft) may = (tt, quiet (discards n path draft) refl may refl (λ k. omega arith) (sessions-staged n (without_staged path) (λ x. refl) (λ x. refl) t.sessions s.sessions s.yard.next_session parts.sessions))
  step (relists repo path moment) may = relisted repo path moment may
  step (fades repo path moment) may = faded repo path moment may
  step (expires repo path blob) may = expired repo path blob may
  step (forgets blobs) may = (tt, quiet (forgets blobs) refl may refl (λ k. omega arith) parts.sessions)
  step (lends blob) may = (tt, quiet (lends blob) refl may refl (λ k. omega arith) parts.sessions)
  step (returns lease) may = (tt, quiet (returns lease) refl may refl (λ k. omega arith) parts.sessions)
  step (opens n repo) may = opened n repo may
  step (ends n result) may = ended n result may
  step (caches id path blob moment) may = cached id path blob moment may
  step (keeps_doc id path document moment) may = kept id path document moment may
  step (adds_negative id path moment) may = (
    tt,
    quiet (adds_negative id path moment) refl may refl (λ k. cached-stays k id (proxy_after (adds_negative id path moment)) (λ p. omega arith) s.proxies) parts.sessions,
  )
  step (clears_negative id path) may = (
    tt,
    quiet (clears_negative id path) refl may refl (λ k. cached-stays k id (proxy_after (clears_negative id path)) (λ p. omega arith) s.proxies) parts.sessions,
  )

step-held : (grace now : ℕ) (s : State) (t : Tables) → now ≤ s.last → OnePlace s → Numbered s → InOrder t → Holds t s → (e : Effect) → May grace now s e
    → AllFit t (items_of e) × Holds (with_items t (items_of e)) (with_effect s e)
step-held grace now s t up placed numbered ordered held e may =
    let (fits, parts) = step grace now s t up placed numbered ordered (parts-of t s held) held.files e may in
    (fits, from-parts (with_items t (items_of e)) (with_effect s e) parts (files-held-kept grace now s e t may held.files) (documents-held-kept grace now s e t may held.documents))

-- items that fit are applied
fit-applied : (items : List Item) (place : ℕ) (t : Tables) → AllFit t items → applied_from place t items ≡ Ok (with_items t items)
fit-applied [] place t all = refl
fit-applied (item ∷ items) place t all = rw all.0 (fit-applied items (place + 1) (item_on t item) all.1)

fit-ordered : (items : List Item) (t : Tables) → AllFit t items → InOrder t → InOrder (with_items t items)
fit-ordered [] t all ordered = ordered
fit-ordered (item ∷ items) t all ordered = fit-ordered items (item_on t item) all.1 (ordered-kept t item ordered all.0)

-- items that were applied fit, and the tables after them are theirs
pub applied-fit : (items : List Item) (place : ℕ) (t new : Tables) → applied_from place t items ≡ Ok new → AllFit t items
applied-fit [] place t new is = tt
applied-fit (item ∷ items) place t new is =
    elim (fits_on t item) as (λ b. fits_on t item ≡ b → (if b then applied_from (place + 1) (item_on t item) items else Err place) ≡ Ok new → AllFit t (item ∷ items)) [
      | true ↦ λ fits later. (fits, applied-fit items (place + 1) (item_on t item) new later)
      | false ↦ λ misfit here. absurd (let e : Err place ≡ Ok new = here in cc)
    ] refl is

pub applied-is : (t new : Tables) (items : List Item) → applied t items ≡ Ok new → with_items t items ≡ new
applied-is t new items is = let so : applied t items ≡ Ok (with_items t items) = fit-applied items 0 t (applied-fit items 0 t new is) in cc

pub applied-ordered : (t new : Tables) (items : List Item) → InOrder t → applied t items ≡ Ok new → InOrder new
applied-ordered t new items ordered is = subst InOrder (applied-is t new items is) (fit-ordered items t (applied-fit items 0 t new is) ordered)

fit-append : (items more : List Item) (t : Tables) → AllFit t items → AllFit (with_items t items) more → AllFit t (items ++ more)
fit-append [] more t all rest = rest
fit-append (item ∷ items) more t all rest = (all.0, fit-append items more (item_on t item) all.1 rest)

-- the place that is named is that of the first item that does not fit
first-from : (items : List Item) (start place : ℕ) (t : Tables) → applied_from start t items ≡ Err place
    → (before : List Item) × (item : Item) × (after : List Item) × (items ≡ before ++ item ∷ after) × (place ≡ start + length before) × AllFit t before × (fits_on (with_items t before) item ≡ false)
first-from [] start place t is = cc
first-from (item ∷ items) start place t is =
    elim (fits_on t item)
    as (λ b. fits_on t item ≡ b → (if b then applied_from (start + 1) (item_on t item) items else Err start) ≡ Err place
    → (before : List Item) × (one : Item) × (after : List Item) × (item ∷ items ≡ before ++ one ∷ after) × (place ≡ start + length before) × AllFit t before × (fits_on (with_items t before) one ≡ false)) [
      | true ↦ λ fits later.
          let (before, one, behind, parts, place_is, all, misfit) = first-from items (start + 1) place (item_on t item) later in
          (item ∷ before, one, behind, ap (λ rest. item ∷ rest) parts, omega (arith, place_is), (fits, all), misfit)
      | false ↦ λ misfit here. let same : start ≡ place = cc in ([], item, items, refl, omega (arith, same), tt, misfit)
    ] refl is

pub first-misfit : (t : Tables) (items : List Item) (place : ℕ) → applied t items ≡ Err place
    → (before : List Item) × (item : Item) × (after : List Item) × (items ≡ before ++ item ∷ after) × (place ≡ length before)
    × (applied t before ≡ Ok (with_items t before)) × (fits_on (with_items t before) item ≡ false)
first-misfit t items place is =
    let (before, item, behind, parts, place_is, all, misfit) = first-from items 0 place t is in
    (before, item, behind, parts, omega (arith, place_is), fit-applied before 0 t all, misfit)

pub effect-recorded : (grace now : ℕ) (s : State) (e : Effect) (t : Tables) → May grace now s e → now ≤ s.last → OnePlace s → Numbered s → InOrder t → Holds t s
    → (applied t (items_of e) ≡ Ok (with_items t (items_of e))) × InOrder (with_items t (items_of e)) × Holds (with_items t (items_of e)) (with_effect s e)
effect-recorded grace now s e t may up placed numbered ordered held =
    let (fits, held_then) = step-held grace now s t up placed numbered ordered held e may in
    (fit-applied (items_of e) 0 t fits, fit-ordered (items_of e) t fits ordered, held_then)

-- all that effects record
module _ (settings : Settings) (grace now : ℕ) where
  steps : (es : List Effect) (s : State) (t : Tables) → AllMay grace now s es → now ≤ s.last → Sound settings s → OnePlace s → Numbered s → InOrder t → Holds t s
      → AllFit t (recorded es) × Holds (with_items t (recorded es)) (with_effects s es)
  steps [] s t all up sound placed numbered ordered held = (tt, held)
  steps (e ∷ es) s t all up sound placed numbered ordered held =
      let (fits, held_then) = step-held grace now s t up placed numbered ordered held e all.0 in
      let (fit_rest, rest) = steps es (with_effect s e) (with_items t (items_of e)) all.1 up (sound-kept settings grace now s e all.0 sound)
      (one-place-kept grace now s e (all-apart s.hosted sound.rows) all.0 placed) (numbered-kept grace now s e all.0 numbered) (fit-ordered (items_of e) t fits ordered) held_then in (
        fit-append (items_of e) (recorded es) t fits fit_rest,
        subst (λ (u : Tables). Holds u (with_effects s (e ∷ es))) (sym (fold-append item_on t (items_of e) (recorded es))) rest,
      )

  pub effects-recorded : (es : List Effect) (s : State) (t : Tables) → AllMay grace now s es → now ≤ s.last → Sound settings s → OnePlace s → Numbered s → InOrder t → Holds t s
      → (applied t (recorded es) ≡ Ok (with_items t (recorded es))) × InOrder (with_items t (recorded es)) × Holds (with_items t (recorded es)) (with_effects s es)
  effects-recorded es s t all up sound placed numbered ordered held =
      let (fits, held_then) = steps es s t all up sound placed numbered ordered held in
      (fit-applied (recorded es) 0 t fits, fit-ordered (recorded es) t fits ordered, held_then)

-- the clock and the records' count are no matter of the tables
held-ticked : (t : Tables) (s : State) (moment faults : ℕ) → s.last ≤ moment → Holds t s → Holds t (ticked s moment faults)
held-ticked t s moment faults later held = record {
  rows = held.rows;
  files = held.files;
  documents = held.documents;
  ended = held.ended;
  opened = held.opened;
  next_session = held.next_session;
  drawn = held.drawn;
  loose = held.loose;
  moments = omega (arith, held.moments, later);
}

numbered-ticked : (s : State) (moment faults : ℕ) → Numbered s → Numbered (ticked s moment faults)
numbered-ticked s moment faults old = record { below = old.below; apart = old.apart }

module _ (settings : Settings) (apart : AreNamedApart settings.hosted) where
  pub numbered-entry : (s : State) (e : Entry) → Fits settings s e → Sound settings s → Numbered s → Numbered (after settings s e)
  numbered-entry s e fits sound old =
      all-keep settings.grace e.moment Numbered (λ t f may before. numbered-kept settings.grace e.moment t f may before) (effects_of settings s e) (ticked s e.moment e.faults) (entry-may settings apart s e sound fits)
      (numbered-ticked s e.moment e.faults old)

  entry-steps : (s : State) (e : Entry) (t : Tables) → Fits settings s e → Sound settings s → OnePlace s → Numbered s → InOrder t → Holds t s
      → AllFit t (recorded (effects_of settings s e)) × Holds (with_items t (recorded (effects_of settings s e))) (after settings s e)
  entry-steps s e t fits sound placed numbered ordered held =
      let u : State = ticked s e.moment e.faults in
      steps settings settings.grace e.moment (effects_of settings s e) u t (entry-may settings apart s e sound fits) (omega arith) (sound-ticked settings s e.moment e.faults sound)
      (one-place-ticked s e.moment e.faults placed) (numbered-ticked s e.moment e.faults numbered) ordered (held-ticked t s e.moment e.faults (moment-rises s e.moment fits.moment) held)

  pub entry-recorded : (s : State) (e : Entry) (t : Tables) → Fits settings s e → Sound settings s → OnePlace s → Numbered s → InOrder t → Holds t s
      → (applied t (recorded (effects_of settings s e)) ≡ Ok (with_items t (recorded (effects_of settings s e)))) × InOrder (with_items t (recorded (effects_of settings s e)))
      × Holds (with_items t (recorded (effects_of settings s e))) (after settings s e)
  entry-recorded s e t fits sound placed numbered ordered held =
      let items : List Item = recorded (effects_of settings s e) in
      let (fit, held_then) = entry-steps s e t fits sound placed numbered ordered held in
      (fit-applied items 0 t fit, fit-ordered items t fit ordered, held_then)

  -- a reply that no state determines records nothing
  pub free-recorded : (s : State) (e : Entry) (t : Tables) → Fits settings s e → Sound settings s → OnePlace s → Numbered s → InOrder t → Holds t s → IsTrue (is_free e.reply)
      → (recorded (effects_of settings s e) ≡ []) × Holds t (after settings s e)
  free-recorded s e t fits sound placed numbered ordered held free =
      let none : recorded (effects_of settings s e) ≡ [] = ap (λ b. recorded (if b then [] else (turn settings s e.moment e.command).effects)) free in
      (none, subst (λ (items : List Item). Holds (with_items t items) (after settings s e)) none (entry-recorded s e t fits sound placed numbered ordered held).2)

  -- all that a history records
  history-steps : (entries : List Entry) (s : State) (t : Tables) → Legal settings s entries → Sound settings s → OnePlace s → Numbered s → InOrder t → Holds t s
      → AllFit t (told settings s entries) × Holds (with_items t (told settings s entries)) (end settings s entries)
  history-steps [] s t legal sound placed numbered ordered held = (tt, held)
  history-steps (e ∷ entries) s t legal sound placed numbered ordered held =
      let items : List Item = recorded (effects_of settings s e) in
      let (fit, held_then) = entry-steps s e t legal.0 sound placed numbered ordered held in
      let (fit_rest, rest) = history-steps entries (after settings s e) (with_items t items) legal.1 (sound-entry settings apart s e legal.0 sound) (one-place-entry settings apart s e legal.0 sound placed)
      (numbered-entry s e legal.0 sound numbered) (fit-ordered items t fit ordered) held_then in (
        fit-append items (told settings (after settings s e) entries) t fit fit_rest,
        subst (λ (u : Tables). Holds u (end settings s (e ∷ entries))) (sym (fold-append item_on t items (told settings (after settings s e) entries))) rest,
      )

  pub history-recorded : (entries : List Entry) (s : State) (t : Tables) → Legal settings s entries → Sound settings s → OnePlace s → Numbered s → InOrder t → Holds t s
      → (applied t (told settings s entries) ≡ Ok (with_items t (told settings s entries))) × InOrder (with_items t (told settings s entries)) × Holds (with_items t (told settings s entries)) (end settings s entries)
  history-recorded entries s t legal sound placed numbered ordered held =
      let (fit, then_held) = history-steps entries s t legal sound placed numbered ordered held in
      (fit-applied (told settings s entries) 0 t fit, fit-ordered (told settings s entries) t fit ordered, then_held)

-- the opening state
pub opening-held : (settings : Settings) (clock : Option Moments) → Holds no_tables (opening settings clock)
opening-held settings clock = record {
  rows = λ repo path there.
      ap (λ rows. option_map without_bytes (row_at path rows))
      (sym (all-part (λ (h : Hosted). h.rule.id) (λ (h : Hosted). h.rows) (λ rows. rows ≡ []) repo (map new_hosted settings.hosted) refl (all-map new_hosted (λ (h : Hosted). h.rows ≡ []) (λ rule. refl) settings.hosted)));
  files = opening-files settings.proxies;
  documents = opening-documents settings.proxies;
  ended = λ n. refl;
  opened = λ n there. absurd (false≢true there);
  next_session = refl;
  drawn = λ n named. absurd (false≢true named);
  loose = λ n named. absurd (false≢true named);
  moments = omega arith;
}

pub opening-stands : (settings : Settings) (clock : Option Moments) → StandsFor no_tables (opening settings clock)
opening-stands settings clock = record { holds = opening-held settings clock; last = refl; next_lease = refl; none_open = tt; leases = refl; drafts = refl; condemned = refl; negatives = all-map new_proxy (λ (p : Proxy). p.negatives ≡ []) (λ rule. refl) settings.proxies }

pub opening-numbered : (settings : Settings) (clock : Option Moments) → Numbered (opening settings clock)
opening-numbered settings clock = record { below = tt; apart = tt }
