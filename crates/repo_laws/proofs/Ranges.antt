-- Tables stay in range under what a turn records.
use native.Mathlib.Omega.{arith}
use Rattle.std.proofs.Common.{◌≡◌, ◌≤◌, ◌<◌, ℕ, Bool, true, false, not, ◌||◌, List, [], ◌∷◌, Some, None, Ok, refl, ◌∙◌, ap, subst, eqb-true}
use Rattle.std.specs.Prelude.{◌==◌, nat_lt, filter, find, count_by, if◌then◌else◌, IsTrue}
use Rattle.std.specs.List.{AllByRecursion, list_any}
use Rattle.std.proofs.lemmas.Bool.{false≢true, and_parts, eq-eqb, ltb-true, ltb-false}
use Rattle.repo_model.specs.declared.item.Item.{Item}
use Rattle.repo_model.specs.declared.item.Item.TheVariants.{HostedPut, Faded, Relisted, Removed, CachedFile, CachedDoc, SessionOpened, SessionEnded, Digested}
use Rattle.repo_model.specs.declared.print.Recorded.{Recorded}
use Rattle.repo_model.specs.Data.{Row, listed, fading, Staged, Session}
use Rattle.repo_model.specs.Paths.{FadesRightly, is_snapshot_path}
use Rattle.repo_model.specs.Settings.{Settings}
use Rattle.repo_model.specs.State.{State, is_open_at, is_staged, number_end}
use Rattle.repo_model.specs.Effect.{Effect, creates, delivers, relists, fades, expires, opens, ends, list_again, fade, with_effect, items_of, recorded, caches, keeps_doc}
use Rattle.repo_model.specs.May.{May, AllMay}
use Rattle.repo_model.specs.Tables.{Tables, RecordedRow, RecordedDocument, RecordedSession, no_tables, is_recorded, recorded_at, recorded_row, with_recorded, is_session, is_listed_row, change_recorded, digested, lacks_at, names_blob, item_on, fits_on, applied}
use Rattle.repo_model.specs.History.{Entry, Legal, latest_moment, ticked, effects_of, after}
use Rattle.repo_laws.specs.Laws.{staged_with, places_of}
use Rattle.repo_laws.specs.Sound.{AreNamedApart, Sound, OnePlace, IsSound}
use Rattle.repo_laws.specs.Holds.{IsUpTo, AreUpTo, with_items, told}
use Rattle.repo_laws.specs.InRange.{IsRowInRange, InRange, IsItemInRange}
use Rattle.repo_laws.proofs.ByPath.{all-apart}
use Rattle.repo_laws.proofs.Counts.{stages_it, among-counts, found-counts, found-sums}
use Rattle.repo_laws.proofs.Histories.{entry-may, one-place-ticked, sound-ticked}
use Rattle.repo_laws.proofs.Holding.{AllFit, applied-fit, applied-is}
use Rattle.repo_laws.proofs.HoldingLists.{all-change_where, all-filter, all-push, all-join}
use Rattle.repo_laws.proofs.HoldingOrder.{recorded-there, all-with_document, all-with_recorded}
use Rattle.repo_laws.proofs.Keeping.{keeps-sound}
use Rattle.repo_laws.proofs.Lists.{all-changed, all-then}
use Rattle.repo_laws.proofs.Moments.{last-after, last-capped}
use Rattle.repo_laws.proofs.Orderly.{sound-kept}
use Rattle.repo_laws.proofs.Places.{one-place-kept}

-- a number that rows name is one of theirs
row-named : (P : ℕ → Type 0) (n : ℕ) (rows : List RecordedRow) → AllByRecursion (λ (r : RecordedRow). P r.row.blob.number) rows → list_any (λ (r : RecordedRow). r.row.blob.number == n) rows ≡ true → P n
row-named P n [] all there = absurd (false≢true there)
row-named P n (r ∷ rows) all there =
    elim (r.row.blob.number == n) as (λ b. (r.row.blob.number == n) ≡ b → (b || list_any (λ (x : RecordedRow). x.row.blob.number == n) rows) ≡ true → P n) [
      | true ↦ λ is _. subst P (eqb-true r.row.blob.number n is) all.0
      | false ↦ λ _ later. row-named P n rows all.1 later
    ] refl there

pub rows-named : (P : ℕ → Type 0) (n : ℕ) (t : Tables) → AllByRecursion (λ (r : RecordedRow). P r.row.blob.number) t.hosted → AllByRecursion (λ (r : RecordedRow). P r.row.blob.number) t.cached
    → IsTrue (names_blob n t) → P n
rows-named P n t hosted cached named =
    elim (list_any (λ (r : RecordedRow). r.row.blob.number == n) t.hosted)
    as (λ b. list_any (λ (r : RecordedRow). r.row.blob.number == n) t.hosted ≡ b → (b || list_any (λ (r : RecordedRow). r.row.blob.number == n) t.cached) ≡ true → P n) [
      | true ↦ λ is _. row-named P n t.hosted hosted is
      | false ↦ λ _ later. row-named P n t.cached cached later
    ] refl named

-- what tables in range are
module _ (t : Tables) (range : InRange t) where
  pub range-bare : AllByRecursion (λ (r : RecordedRow). r.row.blob.bytes ≡ None) t.hosted
  range-bare = all-then (λ (r : RecordedRow). IsRowInRange r × FadesRightly r.row) (λ (r : RecordedRow). r.row.blob.bytes ≡ None) (λ r so. so.0.0) t.hosted range.hosted

  pub cached-bare : AllByRecursion (λ (r : RecordedRow). r.row.blob.bytes ≡ None) t.cached
  cached-bare = all-then IsRowInRange (λ (r : RecordedRow). r.row.blob.bytes ≡ None) (λ r so. so.0) t.cached range.cached

  pub range-fading : AllByRecursion (λ (r : RecordedRow). FadesRightly r.row) t.hosted
  range-fading = all-then (λ (r : RecordedRow). IsRowInRange r × FadesRightly r.row) (λ (r : RecordedRow). FadesRightly r.row) (λ r so. so.1) t.hosted range.hosted

  pub range-numbers : (n : ℕ) → IsTrue (names_blob n t) → (0 < n) × (n < number_end)
  range-numbers n named =
      rows-named (λ k. (0 < k) × (k < number_end)) n t
      (all-then (λ (r : RecordedRow). IsRowInRange r × FadesRightly r.row) (λ (r : RecordedRow). (0 < r.row.blob.number) × (r.row.blob.number < number_end)) (λ r so. (so.0.1, so.0.2)) t.hosted range.hosted)
      (all-then IsRowInRange (λ (r : RecordedRow). (0 < r.row.blob.number) × (r.row.blob.number < number_end)) (λ r so. (so.1, so.2)) t.cached range.cached) named

  pub range-moments : AreUpTo latest_moment t
  range-moments = (
    all-then (λ (r : RecordedRow). IsRowInRange r × FadesRightly r.row) (IsUpTo latest_moment) (λ r so. so.0.3) t.hosted range.hosted,
    all-then IsRowInRange (IsUpTo latest_moment) (λ r so. so.3) t.cached range.cached,
    range.documents,
  )

-- ---- items
-- where an item lets a row fade, it is a snapshot's
abbrev FadesSnapshot : Item → Type 0
FadesSnapshot (Faded repo path moment) = is_snapshot_path path ≡ true
FadesSnapshot item = Unit {0}

new-in-range : (repo path : List ℕ) (blob : ℕ) (print : Recorded) (accepted : ℕ) → (0 < blob) × (blob < number_end) × (accepted ≤ latest_moment) → IsRowInRange (recorded_row repo path blob print accepted)
new-in-range repo path blob print accepted (above, below, early) = (refl, above, below, (early, λ since is. absurd (let e : listed ≡ fading since = is in cc)))

fades-to : (moment since : ℕ) → fading moment ≡ fading since → moment ≡ since
fades-to moment since is = cc

-- a row of a hosted repository
abbrev IsHostedInRange : RecordedRow → Type 0
IsHostedInRange r = IsRowInRange r × FadesRightly r.row

-- tables of which one list is another
module _ (t : Tables) (old : InRange t) where
  hosted-range : (rows : List RecordedRow) → AllByRecursion IsHostedInRange rows → InRange (record t { hosted = rows })
  hosted-range rows all = record { hosted = all; cached = old.cached; documents = old.documents; sessions = old.sessions }

  cached-range : (rows : List RecordedRow) → AllByRecursion IsRowInRange rows → InRange (record t { cached = rows })
  cached-range rows all = record { hosted = old.hosted; cached = all; documents = old.documents; sessions = old.sessions }

  hosted-changed : (repo path : List ℕ) (f : Row → Row) → ((r : RecordedRow) → is_recorded repo path r ≡ true → IsHostedInRange r → IsHostedInRange (record r { row = f r.row })) → InRange (record t { hosted = change_recorded repo path f t.hosted })
  hosted-changed repo path f so = hosted-range (change_recorded repo path f t.hosted) (all-changed IsHostedInRange (is_recorded repo path) (λ r. record r { row = f r.row }) so t.hosted old.hosted)

never-fading : (since : ℕ) → listed ≡ fading since → ⊥
never-fading since is = cc

range-step : (t : Tables) (item : Item) → InRange t → IsItemInRange item → FadesSnapshot item → InRange (item_on t item)
range-step t (HostedPut repo path blob print accepted) old so rightly =
    let new : RecordedRow = recorded_row repo path blob print accepted in
    hosted-range t old (with_recorded new t.hosted) (all-with_recorded IsHostedInRange new t.hosted old.hosted (new-in-range repo path blob print accepted so, λ since is. absurd (never-fading since is)))
range-step t (Faded repo path moment) old so rightly =
    hosted-changed t old repo path (fade moment) (λ r is both. (
      (both.0.0, both.0.1, both.0.2, (both.0.3.0, λ since fades_since. subst (λ k. k ≤ latest_moment) (fades-to moment since fades_since) so)),
      λ since _. ap is_snapshot_path (recorded-there repo path r is).1 ∙ rightly,
    ))
range-step t (Relisted repo path accepted) old so rightly =
    hosted-changed t old repo path (list_again accepted) (λ r is both. (
      (both.0.0, both.0.1, both.0.2, (so, λ since listed_so. absurd (never-fading since listed_so))),
      λ since listed_so. absurd (never-fading since listed_so),
    ))
range-step t (Removed repo path) old so rightly =
    let left : RecordedRow → Bool = λ r. not (is_recorded repo path r) in hosted-range t old (filter left t.hosted) (all-filter IsHostedInRange left t.hosted old.hosted)
range-step t (CachedFile repo path blob print accepted) old so rightly =
    let new : RecordedRow = recorded_row repo path blob print accepted in
    cached-range t old (with_recorded new t.cached) (all-with_recorded IsRowInRange new t.cached old.cached (new-in-range repo path blob print accepted so))
range-step t (CachedDoc repo path checked document) old so rightly = record {
  hosted = old.hosted;
  cached = old.cached;
  documents = all-with_document (λ (d : RecordedDocument). d.checked ≤ latest_moment) (record { repo = repo; path = path; checked = checked; document = document }) t.documents old.documents so;
  sessions = old.sessions;
}
range-step t (SessionOpened n) old so rightly = record {
  hosted = old.hosted;
  cached = old.cached;
  documents = old.documents;
  sessions = all-push (λ (one : RecordedSession). one.number < number_end) t.sessions (record { number = n; result = None }) old.sessions so;
}
range-step t (SessionEnded n result) old so rightly = record {
  hosted = old.hosted;
  cached = old.cached;
  documents = old.documents;
  sessions = all-change_where (λ (one : RecordedSession). one.number < number_end) (is_session n) (λ one. record one { result = Some result }) (λ one below. below) t.sessions old.sessions;
}
range-step t (Digested repo path further) old so rightly =
    elim (lacks_at repo path t.hosted)
    as (λ b. InRange (if b then record t { hosted = change_recorded repo path (digested further) t.hosted } else record t { cached = change_recorded repo path (digested further) t.cached })) [
      | true ↦ hosted-changed t old repo path (digested further) (λ r _ both. both)
      | false ↦ cached-range t old (change_recorded repo path (digested further) t.cached) (all-change_where IsRowInRange (is_recorded repo path) (λ r. record r { row = digested further r.row }) (λ r range. range) t.cached old.cached)
    ]

-- what fits lets no other row fade
fits-rightly : (t : Tables) (item : Item) → fits_on t item ≡ true → FadesSnapshot item
fits-rightly t (Faded repo path moment) fits = (and_parts (is_snapshot_path path) (is_listed_row (recorded_at repo path t.hosted)) fits).0
fits-rightly t (HostedPut repo path blob print accepted) fits = tt
fits-rightly t item fits = tt

pub range-kept : (t : Tables) (item : Item) → InRange t → IsItemInRange item → IsTrue (fits_on t item) → InRange (item_on t item)
range-kept t item old so fits = range-step t item old so (fits-rightly t item fits)

pub no-tables-in-range : InRange no_tables
no-tables-in-range = record { hosted = tt; cached = tt; documents = tt; sessions = tt }

abbrev IsRight : Item → Type 0
IsRight item = IsItemInRange item × FadesSnapshot item

range-items : (items : List Item) (t : Tables) → AllByRecursion IsRight items → InRange t → InRange (with_items t items)
range-items [] t all range = range
range-items (item ∷ items) t all range = range-items items (item_on t item) all.1 (range-step t item range all.0.0 all.0.1)

range-fit : (items : List Item) (t : Tables) → AllFit t items → AllByRecursion IsItemInRange items → InRange t → InRange (with_items t items)
range-fit [] t fits all range = range
range-fit (item ∷ items) t fits all range = range-fit items (item_on t item) fits.1 all.1 (range-kept t item range all.0 fits.0)

pub range-applied : (t new : Tables) (items : List Item) → InRange t → AllByRecursion IsItemInRange items → applied t items ≡ Ok new → InRange new
range-applied t new items range all is = subst InRange (applied-is t new items is) (range-fit items t (applied-fit items 0 t new is) all range)

-- ---- effects
staged-some : (m : ℕ) (path : List ℕ) (sessions : List Session) (one : Session) (file : Staged) → find (is_open_at m) sessions ≡ Some one → find (is_staged path) one.staged ≡ Some file
    → 0 < staged_with file.blob.number sessions
staged-some m path sessions one file found is =
    omega (
      arith,
      found-sums (λ (s : Session). count_by (stages_it file.blob.number) s.staged) (is_open_at m) sessions one found,
      found-counts (stages_it file.blob.number) (is_staged path) one.staged file is (eq-eqb file.blob.number file.blob.number refl),
    )

placed-range : (s : State) (n : ℕ) → OnePlace s → s.yard.next_draft ≤ number_end → 0 < places_of s n → (0 < n) × (n < number_end)
placed-range s n placed up some = (
  elim (nat_lt 0 n) as (λ b. nat_lt 0 n ≡ b → 0 < n) [
    | true ↦ λ is. ltb-true 0 n is
    | false ↦ λ is.
        let zero_so : 0 ≡ n = omega (arith, ltb-false 0 n is) in
        let none : places_of s n ≡ 0 = subst (λ k. places_of s k ≡ 0) zero_so placed.none in
        absurd (omega (arith, some, none))
  ] refl,
  elim (nat_lt n s.yard.next_draft) as (λ b. nat_lt n s.yard.next_draft ≡ b → n < number_end) [
    | true ↦ λ is. omega (arith, ltb-true n s.yard.next_draft is, up)
    | false ↦ λ is. absurd (omega (arith, some, placed.later n (ltb-false n s.yard.next_draft is)))
  ] refl,
)

effect-right : (grace now : ℕ) (s : State) (e : Effect) → May grace now s e → now ≤ latest_moment → OnePlace s → s.yard.next_draft ≤ number_end → AllByRecursion IsRight (items_of e)
effect-right grace now s (creates repo path blob moment) may early placed up =
    let some = among-counts blob.number s.yard.drafts may.2 in
    let (above, below) = placed-range s blob.number placed up (omega (arith, some)) in
    (((above, below, omega (arith, may.0, early)), tt), tt)
effect-right grace now s (delivers n repo path blob moment) may early placed up =
    let (one, is_now, _, found, is, _) = may in
    let some = staged-some n path s.sessions one (record { path = path; blob = blob }) found is in
    let (above, below) = placed-range s blob.number placed up (omega (arith, some)) in
    (((above, below, omega (arith, is_now, early)), tt), tt)
effect-right grace now s (relists repo path moment) may early placed up = let (row, since, is_now, _, _) = may in ((omega (arith, is_now, early), tt), tt)
effect-right grace now s (fades repo path moment) may early placed up = ((omega (arith, may.0, early), may.1), tt)
effect-right grace now s (expires repo path blob) may early placed up = ((tt, tt), tt)
effect-right grace now s (opens n repo) may early placed up = ((may.1, tt), tt)
effect-right grace now s (ends n result) may early placed up = ((tt, tt), tt)
effect-right grace now s (caches id path blob moment) may early placed up =
    let some = among-counts blob.number s.yard.drafts may.2 in
    let (above, below) = placed-range s blob.number placed up (omega (arith, some)) in
    (((above, below, omega (arith, may.0, early)), tt), tt)
effect-right grace now s (keeps_doc id path document moment) may early placed up = ((omega (arith, may.0, early), tt), tt)
effect-right grace now s e may early placed up = tt

module _ (settings : Settings) (apart : AreNamedApart settings.hosted) where
  effects-right : (now : ℕ) (es : List Effect) (s : State) → AllMay settings.grace now s es → now ≤ latest_moment → Sound settings s → OnePlace s → AllByRecursion IsRight (recorded es)
  effects-right now [] s may early sound placed = tt
  effects-right now (e ∷ es) s may early sound placed =
      all-join IsRight (items_of e) (recorded es) (effect-right settings.grace now s e may.0 early placed sound.draft)
      (effects-right now es (with_effect s e) may.1 early (sound-kept settings settings.grace now s e may.0 sound) (one-place-kept settings.grace now s e (all-apart s.hosted sound.rows) may.0 placed))

  told-right : (entries : List Entry) (s : State) → Legal settings s entries → IsSound settings s → AllByRecursion IsRight (told settings s entries)
  told-right [] s legal sound = tt
  told-right (e ∷ entries) s legal sound =
      let capped = last-capped settings s e sound.last legal.0 in
      let early : e.moment ≤ latest_moment = omega (arith, capped, last-after settings s e) in
      all-join IsRight (recorded (effects_of settings s e)) (told settings (after settings s e) entries)
      (effects-right e.moment (effects_of settings s e) (ticked s e.moment e.faults) (entry-may settings apart s e sound.order legal.0) early (sound-ticked settings s e.moment e.faults sound.order)
      (one-place-ticked s e.moment e.faults sound.places))
      (told-right entries (after settings s e) legal.1 (keeps-sound settings apart s e sound legal.0))

  -- what a history records keeps tables in range
  pub range-history : (entries : List Entry) (s : State) (t : Tables) → Legal settings s entries → IsSound settings s → InRange t → InRange (with_items t (told settings s entries))
  range-history entries s t legal sound range = range-items (told settings s entries) t (told-right entries s legal sound) range
