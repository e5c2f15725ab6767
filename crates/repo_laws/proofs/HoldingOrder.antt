-- Tables stay in order under each item that fits.
use native.Mathlib.Omega.{arith}
use Rattle.std.proofs.Common.{◌≡◌, ◌≤◌, ◌<◌, ◌+◌, ℕ, Bool, true, false, not, List, [], ◌∷◌, ◌++◌, Some, None, refl, sym, ◌∙◌, ap, subst, option_map, eqb-true}
use Rattle.std.specs.Prelude.{◌==◌, if◌then◌else◌, nat_lt, filter, find, count_by, bytes_eq, is_none}
use Rattle.std.specs.List.{AllByRecursion, list_any, list_all}
use Rattle.std.specs.List.Sorted.{IsStrictlySortedBy}
use Rattle.std.specs.Ordering.{nat_cmp}
use Rattle.std.specs.Cmp.{IsTotalOrder, on_total, nat_cmp_is, nat_cmp_total}
use Rattle.std.specs.declared.cmp.Ordering.TheVariants.{Less, Equal}
use Rattle.std.proofs.lemmas.Bool.{false≢true, and_parts, and_from, not-true, or_parts, ltb-true}
use Rattle.repo_model.specs.declared.item.Item.{Item}
use Rattle.repo_model.specs.declared.item.Item.TheVariants.{HostedPut, Faded, Relisted, Removed, CachedFile, CachedDoc, SessionOpened, SessionEnded, Digested}
use Rattle.repo_model.specs.Data.{Row}
use Rattle.repo_model.specs.Effect.{list_again, fade}
use Rattle.repo_model.specs.State.{change_where}
use Rattle.repo_model.specs.Tables.{Tables, RecordedRow, RecordedDocument, RecordedSession, no_tables, place_cmp, is_recorded, recorded_at, recorded_row, with_recorded, with_document, change_recorded, is_session, names_blob, digested, lacks_at, item_on, fits_on}
use Rattle.repo_laws.specs.Holds.{row_cmp, document_cmp, session_cmp, named_in, InOrder}
use Rattle.repo_laws.proofs.Counts.{one_if, count-filter, count-same, count-with_recorded, none-counts}
use Rattle.repo_laws.proofs.HoldingLists.{none-found}
use Rattle.repo_laws.proofs.Inserted.{all-inserted, change-ordered, filter-ordered, inserted-ordered, place-order, push-ordered, same-place, with_document-is, with_recorded-is}
use Rattle.repo_laws.proofs.Lists.{all-then}
use Rattle.repo_laws.proofs.Releases.{same_path, is_itself}

-- the orders
rows-order : IsTotalOrder row_cmp
rows-order = place-order (λ (r : RecordedRow). r.repo) (λ (r : RecordedRow). r.row.path)

documents-order : IsTotalOrder document_cmp
documents-order = place-order (λ (d : RecordedDocument). d.repo) (λ (d : RecordedDocument). d.path)

sessions-order : IsTotalOrder session_cmp
sessions-order = on_total (λ (one : RecordedSession). one.number) nat_cmp_total

-- what is found at a place is of it
pub recorded-there : (repo path : List ℕ) (r : RecordedRow) → is_recorded repo path r ≡ true → (r.repo ≡ repo) × (r.row.path ≡ path)
recorded-there repo path r is =
    let (at_repo, at_path) = and_parts (bytes_eq r.repo repo) (bytes_eq r.row.path path) is in (same_path r.repo repo at_repo, same_path r.row.path path at_path)

recorded-here : (r : RecordedRow) → is_recorded r.repo r.row.path r ≡ true
recorded-here r = and_from (bytes_eq r.repo r.repo) (bytes_eq r.row.path r.row.path) (is_itself r.repo) (is_itself r.row.path)

-- rows with one more
pub all-with_recorded : (P : RecordedRow → Type 0) (new : RecordedRow) (rows : List RecordedRow) → AllByRecursion P rows → P new → AllByRecursion P (with_recorded new rows)
all-with_recorded P new rows all here = subst (AllByRecursion P) (sym (with_recorded-is new rows)) (all-inserted row_cmp P true new rows here all)

with_recorded-ordered : (new : RecordedRow) (rows : List RecordedRow) → find (is_recorded new.repo new.row.path) rows ≡ None → IsStrictlySortedBy row_cmp rows → IsStrictlySortedBy row_cmp (with_recorded new rows)
with_recorded-ordered new rows free rising =
    subst (IsStrictlySortedBy row_cmp) (sym (with_recorded-is new rows)) (inserted-ordered row_cmp rows-order true new rows (λ _. apart) rising) where
      apart : AllByRecursion (λ (r : RecordedRow). row_cmp new r ≡ Equal → ⊥) rows
      apart =
          all-then (λ (r : RecordedRow). is_recorded new.repo new.row.path r ≡ false) (λ (r : RecordedRow). row_cmp new r ≡ Equal → ⊥)
          (λ r other tie.
          let (repos, paths) = same-place (λ (x : RecordedRow). x.repo) (λ (x : RecordedRow). x.row.path) new r tie in
          false≢true (sym other ∙ ap (λ p. is_recorded p new.row.path r) repos ∙ ap (λ p. is_recorded r.repo p r) paths ∙ recorded-here r))
          rows (none-found (is_recorded new.repo new.row.path) rows free)

-- documents with one more, in the place of the one at its path
pub all-with_document : (P : RecordedDocument → Type 0) (new : RecordedDocument) (documents : List RecordedDocument) → AllByRecursion P documents → P new → AllByRecursion P (with_document new documents)
all-with_document P new documents all here = subst (AllByRecursion P) (sym (with_document-is new documents)) (all-inserted document_cmp P false new documents here all)

with_document-ordered : (new : RecordedDocument) (documents : List RecordedDocument) → IsStrictlySortedBy document_cmp documents → IsStrictlySortedBy document_cmp (with_document new documents)
with_document-ordered new documents rising =
    subst (IsStrictlySortedBy document_cmp) (sym (with_document-is new documents)) (inserted-ordered document_cmp documents-order false new documents (λ never. absurd (false≢true never)) rising)

-- sessions
pub all-below : (n : ℕ) (sessions : List RecordedSession) → list_all (λ (one : RecordedSession). nat_lt one.number n) sessions ≡ true → AllByRecursion (λ (one : RecordedSession). one.number < n) sessions
all-below n [] all = tt
all-below n (one ∷ sessions) all =
    let (here, rest) = and_parts (nat_lt one.number n) (list_all (λ (other : RecordedSession). nat_lt other.number n) sessions) all in
    (ltb-true one.number n here, all-below n sessions rest)

below-before : (n : ℕ) (sessions : List RecordedSession) → AllByRecursion (λ (one : RecordedSession). one.number < n) sessions → AllByRecursion (λ (one : RecordedSession). nat_cmp one.number n ≡ Less) sessions
below-before n = all-then (λ (one : RecordedSession). one.number < n) (λ one. nat_cmp one.number n ≡ Less) (λ one below. sym (nat_cmp_is one.number n Less below))

-- a blob that no row names comes in
new-named : (n blob before : ℕ) → before ≤ 1 → ((blob == n) ≡ true → before ≡ 0) → one_if (blob == n) + before ≤ 1
new-named n blob before up none =
    elim (blob == n) as (λ b. (b ≡ true → before ≡ 0) → one_if b + before ≤ 1) [ true ↦ λ is. omega (arith, is refl) | false ↦ λ _. omega (arith, up) ] none

unnamed : (t : Tables) (blob : ℕ) → not (names_blob blob t) ≡ true → named_in t blob ≡ 0
unnamed t blob is =
    let names : RecordedRow → Bool = λ r. r.row.blob.number == blob in
    let (hosted, cached) = or_parts (list_any names t.hosted) (list_any names t.cached) (not-true (names_blob blob t) is) in
    omega (arith, none-counts names t.hosted hosted, none-counts names t.cached cached)

pub free-there : (repo path : List ℕ) (rows : List RecordedRow) → is_none (recorded_at repo path rows) ≡ true → find (is_recorded repo path) rows ≡ None
free-there repo path rows free =
    elim (find (is_recorded repo path) rows) as (λ found. is_none (option_map (λ (r : RecordedRow). r.row) found) ≡ true → found ≡ None) [
      | None ↦ λ _. refl
      | (Some r) ↦ λ is. absurd (false≢true is)
    ] free

named-then : (t : Tables) (repo path : List ℕ) (blob n : ℕ) → InOrder t → not (names_blob blob t) ≡ true → one_if (blob == n) + named_in t n ≤ 1
named-then t repo path blob n old free = new-named n blob (named_in t n) (old.blobs n) (λ is. subst (λ (k : ℕ). named_in t k ≡ 0) (eqb-true blob n is) (unnamed t blob free))

-- a change that leaves each row its place and its blob
module _ (repo path : List ℕ) (f : Row → Row) where
  abbrev changing : RecordedRow → RecordedRow
  changing r = record r { row = f r.row }

  changed-order : ((r : Row) → (f r).path ≡ r.path) → (rows : List RecordedRow) → IsStrictlySortedBy row_cmp rows → IsStrictlySortedBy row_cmp (change_recorded repo path f rows)
  changed-order keeps =
      change-ordered row_cmp (is_recorded repo path) changing (λ x y. ap (λ p. place_cmp x.repo p y.repo y.row.path) (keeps x.row)) (λ x y. ap (λ p. place_cmp x.repo x.row.path y.repo p) (keeps y.row))

  pub changed-count : ((r : Row) → (f r).blob.number ≡ r.blob.number) → (n : ℕ) (rows : List RecordedRow)
      → count_by (λ (r : RecordedRow). r.row.blob.number == n) (change_recorded repo path f rows) ≡ count_by (λ (r : RecordedRow). r.row.blob.number == n) rows
  changed-count keeps n = count-same (λ (r : RecordedRow). r.row.blob.number == n) (is_recorded repo path) changing (λ r. ap (λ k. k == n) (keeps r.row))

-- tables of which one list is another
module _ (t : Tables) (old : InOrder t) where
  hosted-order : (rows : List RecordedRow) → IsStrictlySortedBy row_cmp rows → ((n : ℕ) → named_in (record t { hosted = rows }) n ≤ 1) → InOrder (record t { hosted = rows })
  hosted-order rows rising once = record { hosted = rising; cached = old.cached; documents = old.documents; sessions = old.sessions; blobs = once }

  cached-order : (rows : List RecordedRow) → IsStrictlySortedBy row_cmp rows → ((n : ℕ) → named_in (record t { cached = rows }) n ≤ 1) → InOrder (record t { cached = rows })
  cached-order rows rising once = record { hosted = old.hosted; cached = rising; documents = old.documents; sessions = old.sessions; blobs = once }

  documents-in-order : (documents : List RecordedDocument) → IsStrictlySortedBy document_cmp documents → InOrder (record t { documents = documents })
  documents-in-order documents rising = record { hosted = old.hosted; cached = old.cached; documents = rising; sessions = old.sessions; blobs = old.blobs }

  sessions-in-order : (sessions : List RecordedSession) → IsStrictlySortedBy session_cmp sessions → InOrder (record t { sessions = sessions })
  sessions-in-order sessions rising = record { hosted = old.hosted; cached = old.cached; documents = old.documents; sessions = rising; blobs = old.blobs }

  hosted-changed : (repo path : List ℕ) (f : Row → Row) → ((r : Row) → (f r).path ≡ r.path) → ((r : Row) → (f r).blob.number ≡ r.blob.number) → InOrder (record t { hosted = change_recorded repo path f t.hosted })
  hosted-changed repo path f keeps numbered =
      hosted-order (change_recorded repo path f t.hosted) (changed-order repo path f keeps t.hosted old.hosted) (λ n. omega (arith, old.blobs n, changed-count repo path f numbered n t.hosted))

-- each item that fits
pub ordered-kept : (t : Tables) (item : Item) → InOrder t → fits_on t item ≡ true → InOrder (item_on t item)
ordered-kept t (HostedPut repo path blob print accepted) old fits =
    let new : RecordedRow = recorded_row repo path blob print accepted in
    let (free, unnamed_so) = and_parts (is_none (recorded_at repo path t.hosted)) (not (names_blob blob t)) fits in
    hosted-order t old (with_recorded new t.hosted) (with_recorded-ordered new t.hosted (free-there repo path t.hosted free) old.hosted)
    (λ n. omega (arith, count-with_recorded (λ r. r.row.blob.number == n) new t.hosted, named-then t repo path blob n old unnamed_so))
ordered-kept t (Faded repo path moment) old fits = hosted-changed t old repo path (fade moment) (λ r. refl) (λ r. refl)
ordered-kept t (Relisted repo path accepted) old fits = hosted-changed t old repo path (list_again accepted) (λ r. refl) (λ r. refl)
ordered-kept t (Removed repo path) old fits =
    let gone : RecordedRow → Bool = λ r. not (is_recorded repo path r) in
    hosted-order t old (filter gone t.hosted) (filter-ordered row_cmp rows-order gone t.hosted old.hosted) (λ n. omega (arith, old.blobs n, count-filter (λ (r : RecordedRow). r.row.blob.number == n) gone t.hosted))
ordered-kept t (CachedFile repo path blob print accepted) old fits =
    let new : RecordedRow = recorded_row repo path blob print accepted in
    let (free, unnamed_so) = and_parts (is_none (recorded_at repo path t.cached)) (not (names_blob blob t)) fits in
    cached-order t old (with_recorded new t.cached) (with_recorded-ordered new t.cached (free-there repo path t.cached free) old.cached)
    (λ n. omega (arith, count-with_recorded (λ r. r.row.blob.number == n) new t.cached, named-then t repo path blob n old unnamed_so))
ordered-kept t (CachedDoc repo path checked document) old fits =
    let new : RecordedDocument = record { repo = repo; path = path; checked = checked; document = document } in
    documents-in-order t old (with_document new t.documents) (with_document-ordered new t.documents old.documents)
ordered-kept t (SessionOpened n) old fits =
    let new : RecordedSession = record { number = n; result = None } in
    sessions-in-order t old (t.sessions ++ new ∷ []) (push-ordered session_cmp t.sessions new old.sessions (below-before n t.sessions (all-below n t.sessions fits)))
ordered-kept t (SessionEnded n result) old fits =
    let f : RecordedSession → RecordedSession = λ one. record one { result = Some result } in
    sessions-in-order t old (change_where (is_session n) f t.sessions) (change-ordered session_cmp (is_session n) f (λ x y. refl) (λ x y. refl) t.sessions old.sessions)
ordered-kept t (Digested repo path further) old fits =
    elim (lacks_at repo path t.hosted)
    as (λ b. InOrder (if b then record t { hosted = change_recorded repo path (digested further) t.hosted } else record t { cached = change_recorded repo path (digested further) t.cached })) [
      | true ↦ hosted-changed t old repo path (digested further) (λ r. refl) (λ r. refl)
      | false ↦ cached-order t old (change_recorded repo path (digested further) t.cached) (changed-order repo path (digested further) (λ r. refl) t.cached old.cached)
          (λ n. omega (arith, old.blobs n, changed-count repo path (digested further) (λ r. refl) n t.cached))
    ]

pub no-tables-ordered : InOrder no_tables
unfolding IsStrictlySortedBy
no-tables-ordered = record { hosted = tt; cached = tt; documents = tt; sessions = tt; blobs = λ n. omega arith }
