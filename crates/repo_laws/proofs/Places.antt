-- Each blob number stands in one place: kept by each effect.
use native.Mathlib.Omega.{arith}
use Rattle.std.proofs.Common.{◌≡◌, ◌≤◌, ◌<◌, ◌+◌, ℕ, Bool, true, false, not, ◌&&◌, inl, inr, List, [], Some, refl, sym, ◌∙◌, ap, subst}
use Rattle.std.specs.Prelude.{◌==◌, nat_lt, IsTrue, count_by}
use Rattle.std.specs.List.{AllByRecursion, list_all, list_any}
use Rattle.std.proofs.lemmas.Bool.{ne_eqb, false_from_ne_true, false≢true, and_parts, ltb-true, ltb-false}
use Rattle.std.proofs.lemmas.List.Sums.{sum_by_push}
use Rattle.repo_model.specs.Data.{Row, Hosted, Staged, Session}
use Rattle.repo_model.specs.State.{State, Lease, change_where, is_row, is_staged, is_open_at, rows_of, is_among}
use Rattle.repo_model.specs.Effect.{Effect, draws, drops, creates, stages, delivers, discards, relists, fades, expires, forgets, lends, returns, opens, ends, caches, keeps_doc, adds_negative, clears_negative, with_row, new_row, list_again, fade, with_staged, without_row, without_staged, new_session, proxy_after, with_effect}
use Rattle.repo_model.specs.May.{May, IsRowsBlob}
use Rattle.repo_laws.specs.Laws.{places_of, rows_with, cached_with, count_of}
use Rattle.repo_laws.specs.Sound.{OnePlace}
use Rattle.repo_laws.proofs.Files.{cached-grows, cached-stays, file-counts}
use Rattle.repo_laws.proofs.HoldingLists.{all-filter, all-push}
use Rattle.repo_laws.proofs.Lists.{all-among, all-both, all-then, among-has, list_all-all}
use Rattle.repo_laws.proofs.Rows.{RowsApart, all-part, rows_in}
use Rattle.repo_laws.proofs.Counts.{one_if, count-push, count-filter, found-goes, one-goes, count-with_number, count-others, given-up, count-with_row, count-with_staged, count-same, names, stages_it, rows-counted, rows-counted-back, staged-counted, row-counts}

-- the effect draws the next number
abbrev pub is_draw : Effect → Bool
is_draw draws = true
is_draw effect = false

abbrev pub drawn_by : Effect → State → ℕ → ℕ
drawn_by e s n = one_if (is_draw e && (s.yard.next_draft == n))

module _ (grace now : ℕ) (s : State) (n : ℕ) where
  abbrev Counted : Effect → Type 0
  Counted e = places_of (with_effect s e) n ≤ drawn_by e s n + places_of s n

  relisted : (repo path : List ℕ) (f : Row → Row) → ((r : Row) → names n (f r) ≡ names n r) →
      count_by (names n) (change_where (is_row path) f (rows_of repo s)) + 0 ≤ count_by (names n) (rows_of repo s) + 0
  relisted repo path f keeps = omega (arith, count-same (names n) (is_row path) f keeps (rows_of repo s))

  -- a number stands in no more places than before, but for the next one, which is drawn
  pub places-counted : (e : Effect) → May grace now s e → Counted e
  places-counted draws may = omega (arith, count-push (λ m. m == n) s.yard.drafts s.yard.next_draft)
  places-counted (drops m) may = omega (arith, given-up n m s.yard.drafts may, count-with_number n m s.yard.condemned)
  places-counted (creates repo path blob moment) may =
      let here = rows-counted n repo (with_row (new_row path blob moment)) 0 (one_if (blob.number == n)) s.hosted
      (omega (arith, count-with_row (names n) (new_row path blob moment) (rows_of repo s))) in
      omega (arith, given-up n blob.number s.yard.drafts may.2, here)
  places-counted (stages m path blob) may =
      let (one, found, among, _, _) = may in
      let new : Staged = record { path = path; blob = blob } in
      let here = staged-counted n (is_open_at m) (λ session. record session { staged = with_staged new session.staged }) 0 (one_if (blob.number == n)) s.sessions one found
      (omega (arith, count-with_staged (stages_it n) new one.staged)) in
      omega (arith, given-up n blob.number s.yard.drafts among, here)
  places-counted (delivers m repo path blob moment) may =
      let (one, _, _, found, is, _) = may in
      let rows = rows-counted n repo (with_row (new_row path blob moment)) 0 (one_if (blob.number == n)) s.hosted
      (omega (arith, count-with_row (names n) (new_row path blob moment) (rows_of repo s))) in
      let files = staged-counted n (is_open_at m) (without_staged path) (one_if (blob.number == n)) 0 s.sessions one found
      (omega (arith, found-goes (stages_it n) (is_staged path) one.staged (record { path = path; blob = blob }) is)) in
      omega (arith, rows, files)
  places-counted (discards m path draft) may =
      let (one, file, found, is, named) = may in
      let same : one_if (file.blob.number == n) ≡ one_if (draft == n) = ap (λ k. one_if (k == n)) named in
      let files = staged-counted n (is_open_at m) (without_staged path) (one_if (file.blob.number == n)) 0 s.sessions one found
      (omega (arith, found-goes (stages_it n) (is_staged path) one.staged file is)) in
      omega (arith, files, same, count-with_number n draft s.yard.condemned)
  places-counted (relists repo path moment) may =
      omega (arith, rows-counted n repo (change_where (is_row path) (list_again moment)) 0 0 s.hosted (relisted repo path (list_again moment) (λ r. refl)))
  places-counted (fades repo path moment) may =
      omega (arith, rows-counted n repo (change_where (is_row path) (fade moment)) 0 0 s.hosted (relisted repo path (fade moment) (λ r. refl)))
  places-counted (expires repo path blob) may =
      let (row, since, found, _, named, _) = may in
      let same : one_if (row.blob.number == n) ≡ one_if (blob == n) = ap (λ k. one_if (k == n)) named in
      let rows = rows-counted n repo (without_row path) (one_if (row.blob.number == n)) 0 s.hosted
      (omega (arith, found-goes (names n) (is_row path) (rows_of repo s) row found)) in
      omega (arith, rows, same, count-with_number n blob s.yard.condemned)
  places-counted (forgets blobs) may = omega (arith, count-filter (λ m. m == n) (λ m. not (is_among m blobs)) s.yard.condemned)
  places-counted (lends blob) may = omega arith
  places-counted (returns lease) may = omega arith
  places-counted (opens m repo) may =
      let none : count_by (stages_it n) [] ≡ 0 = refl in
      omega (arith, none, sum_by_push (λ (x : Session). count_by (stages_it n) x.staged) s.sessions (new_session m repo))
  places-counted (ends m outcome) may =
      let (one, found, _) = may in
      omega (arith, staged-counted n (is_open_at m) (λ session. record session { ended = Some outcome }) 0 0 s.sessions one found (omega arith))
  places-counted (caches id path blob moment) may =
      let here = cached-grows n id (proxy_after (caches id path blob moment)) (one_if (blob.number == n))
      (λ p. omega (arith, count-with_row (names n) (new_row path blob moment) p.files)) s.proxies in
      omega (arith, given-up n blob.number s.yard.drafts may.2, here)
  places-counted (keeps_doc id path document moment) may =
      omega (arith, cached-grows n id (proxy_after (keeps_doc id path document moment)) 0 (λ p. omega arith) s.proxies)
  places-counted (adds_negative id path moment) may =
      omega (arith, cached-grows n id (proxy_after (adds_negative id path moment)) 0 (λ p. omega arith) s.proxies)
  places-counted (clears_negative id path) may =
      omega (arith, cached-grows n id (proxy_after (clears_negative id path)) 0 (λ p. omega arith) s.proxies)

-- the next number grows where it is drawn
pub next-counted : (s : State) (e : Effect) → (with_effect s e).yard.next_draft ≡ s.yard.next_draft + one_if (is_draw e)
next-counted s draws = refl
next-counted s e = omega arith

-- a number that was drawn is not drawn again
pub never-again : (s : State) (e : Effect) (n : ℕ) → n < s.yard.next_draft → drawn_by e s n ≡ 0
never-again s e n drawn =
    let other : (s.yard.next_draft == n) ≡ false = ne_eqb s.yard.next_draft n (λ same. omega (arith, same, drawn)) in
    elim (is_draw e) as (λ b. one_if (b && (s.yard.next_draft == n)) ≡ 0) [ true ↦ ap one_if other | false ↦ refl ]

-- what is not below the next number then, is not drawn
not-drawn : (s : State) (e : Effect) (n : ℕ) → (with_effect s e).yard.next_draft ≤ n → drawn_by e s n ≡ 0
not-drawn s e n above =
    let next = next-counted s e in
    elim (is_draw e) as (λ b. (with_effect s e).yard.next_draft ≡ s.yard.next_draft + one_if b → one_if (b && (s.yard.next_draft == n)) ≡ 0) [
      | true ↦ λ grown. ap one_if (ne_eqb s.yard.next_draft n (λ same. omega (arith, same, above, grown)))
      | false ↦ λ _. refl
    ] next

one-at-most : (b : Bool) → one_if b ≤ 1
one-at-most true = omega arith
one-at-most false = omega arith

pub rows-apart : (repo : List ℕ) (hosted : List Hosted) → AllByRecursion (λ (h : Hosted). RowsApart h.rows) hosted → RowsApart (rows_in repo hosted)
rows-apart repo hosted = all-part (λ (h : Hosted). h.rule.id) (λ (h : Hosted). h.rows) RowsApart repo hosted tt

-- what is borrowed is a row's or condemned
abbrev IsLent : State → Lease → Type 0
IsLent t lease = 0 < rows_with lease.blob t.hosted + cached_with lease.blob t.proxies + count_of lease.blob t.yard.condemned

all-lent : (s t : State) → ((n : ℕ) → rows_with n s.hosted + cached_with n s.proxies + count_of n s.yard.condemned ≤ rows_with n t.hosted + cached_with n t.proxies + count_of n t.yard.condemned)
    → (leases : List Lease) → AllByRecursion (IsLent s) leases → AllByRecursion (IsLent t) leases
all-lent s t more = all-then (IsLent s) (IsLent t) (λ lease is. omega (arith, is, more lease.blob))

-- none is forgotten that is lent
forgotten : (s : State) (blobs : List ℕ) → IsTrue (list_all (λ n. is_among n s.yard.condemned && not (list_any (λ (l : Lease). l.blob == n) s.yard.leases)) blobs)
    → AllByRecursion (IsLent s) s.yard.leases → AllByRecursion (IsLent (with_effect s (forgets blobs))) s.yard.leases
forgotten s blobs free =
    all-both (λ (lease : Lease). list_any (λ (l : Lease). l.blob == lease.blob) s.yard.leases ≡ true) (IsLent s) (IsLent (with_effect s (forgets blobs)))
    (λ lease lent is. omega (arith, is, count-others lease.blob blobs s.yard.condemned (kept lease.blob lent)))
    s.yard.leases (all-among (λ (l : Lease). l.blob) s.yard.leases) where
      is_free : ℕ → Bool
      is_free n = is_among n s.yard.condemned && not (list_any (λ (l : Lease). l.blob == n) s.yard.leases)

      kept : (n : ℕ) → list_any (λ (l : Lease). l.blob == n) s.yard.leases ≡ true → is_among n blobs ≡ false
      kept n lent =
          false_from_ne_true (is_among n blobs)
          (λ given.
          let unlent = (and_parts (is_among n s.yard.condemned) (not (list_any (λ (l : Lease). l.blob == n) s.yard.leases)) (among-has (λ m. is_free m ≡ true) n blobs (list_all-all is_free blobs free) given)).1 in
          false≢true (sym (ap not lent) ∙ unlent))

-- what a file has, counts
pub rows-blob-counts : (s : State) (blob : ℕ) → IsRowsBlob s blob → 0 < rows_with blob s.hosted + cached_with blob s.proxies
rows-blob-counts s blob (inl (repo, path, row, found, named)) =
    let there : 0 < rows_with blob s.hosted = subst (λ (k : ℕ). 0 < rows_with k s.hosted) named (row-counts repo path s.hosted row found) in
    omega (arith, there)
rows-blob-counts s blob (inr (id, path, row, found, named)) =
    let there : 0 < cached_with blob s.proxies = subst (λ (k : ℕ). 0 < cached_with k s.proxies) named (file-counts id path s.proxies row found) in
    omega (arith, there)

pub lent-kept : (grace now : ℕ) (s : State) (e : Effect) → AllByRecursion (λ (h : Hosted). RowsApart h.rows) s.hosted → May grace now s e
    → AllByRecursion (IsLent s) s.yard.leases → AllByRecursion (IsLent (with_effect s e)) (with_effect s e).yard.leases
lent-kept grace now s (drops m) apart may all =
    all-lent s (with_effect s (drops m)) (λ n. omega (arith, count-with_number n m s.yard.condemned)) s.yard.leases all
lent-kept grace now s (creates repo path blob moment) apart may all =
    all-lent s (with_effect s (creates repo path blob moment))
    (λ n. omega (arith, rows-counted-back n repo (with_row (new_row path blob moment)) 0 s.hosted (omega (arith, count-with_row (names n) (new_row path blob moment) (rows_of repo s))))) s.yard.leases all
lent-kept grace now s (delivers m repo path blob moment) apart may all =
    all-lent s (with_effect s (delivers m repo path blob moment))
    (λ n. omega (arith, rows-counted-back n repo (with_row (new_row path blob moment)) 0 s.hosted (omega (arith, count-with_row (names n) (new_row path blob moment) (rows_of repo s))))) s.yard.leases all
lent-kept grace now s (discards m path draft) apart may all =
    all-lent s (with_effect s (discards m path draft)) (λ n. omega (arith, count-with_number n draft s.yard.condemned)) s.yard.leases all
lent-kept grace now s (relists repo path moment) apart may all =
    all-lent s (with_effect s (relists repo path moment))
    (λ n. omega (arith, rows-counted-back n repo (change_where (is_row path) (list_again moment)) 0 s.hosted (omega (arith, count-same (names n) (is_row path) (list_again moment) (λ r. refl) (rows_of repo s))))) s.yard.leases all
lent-kept grace now s (fades repo path moment) apart may all =
    all-lent s (with_effect s (fades repo path moment))
    (λ n. omega (arith, rows-counted-back n repo (change_where (is_row path) (fade moment)) 0 s.hosted (omega (arith, count-same (names n) (is_row path) (fade moment) (λ r. refl) (rows_of repo s))))) s.yard.leases all
lent-kept grace now s (expires repo path blob) apart may all =
    let (row, since, found, _, named, _) = may in
    all-lent s (with_effect s (expires repo path blob))
    (λ n. let same : one_if (row.blob.number == n) ≡ one_if (blob == n) = ap (λ k. one_if (k == n)) named in
    let rows = rows-counted-back n repo (without_row path) (one_if (row.blob.number == n)) s.hosted (one-goes (λ (r : Row). r.path) (names n) path (rows_of repo s) row (rows-apart repo s.hosted apart) found) in
    omega (arith, rows, same, count-with_number n blob s.yard.condemned)) s.yard.leases all
lent-kept grace now s (forgets blobs) apart may all = forgotten s blobs may all
lent-kept grace now s (lends blob) apart may all =
    all-push (IsLent s) s.yard.leases (record { number = s.yard.next_lease; blob = blob }) all (omega (arith, rows-blob-counts s blob may.1))
lent-kept grace now s (returns lease) apart may all = all-filter (IsLent s) (λ l. not (l.number == lease)) s.yard.leases all
lent-kept grace now s (caches id path blob moment) apart may all =
    all-lent s (with_effect s (caches id path blob moment)) (λ n. omega (arith, cached-stays n id (proxy_after (caches id path blob moment)) (λ p. omega (arith, count-with_row (names n) (new_row path blob moment) p.files)) s.proxies)) s.yard.leases all
lent-kept grace now s (keeps_doc id path document moment) apart may all =
    all-lent s (with_effect s (keeps_doc id path document moment)) (λ n. omega (arith, cached-stays n id (proxy_after (keeps_doc id path document moment)) (λ p. omega arith) s.proxies)) s.yard.leases all
lent-kept grace now s (adds_negative id path moment) apart may all =
    all-lent s (with_effect s (adds_negative id path moment)) (λ n. omega (arith, cached-stays n id (proxy_after (adds_negative id path moment)) (λ p. omega arith) s.proxies)) s.yard.leases all
lent-kept grace now s (clears_negative id path) apart may all =
    all-lent s (with_effect s (clears_negative id path)) (λ n. omega (arith, cached-stays n id (proxy_after (clears_negative id path)) (λ p. omega arith) s.proxies)) s.yard.leases all
lent-kept grace now s e apart may all = all

-- each effect keeps all of it
pub one-place-kept : (grace now : ℕ) (s : State) (e : Effect) → AllByRecursion (λ (h : Hosted). RowsApart h.rows) s.hosted → May grace now s e
    → OnePlace s → OnePlace (with_effect s e)
one-place-kept grace now s e apart may old =
    let next = next-counted s e in
    record {
      drawn = λ n below.
          elim (nat_lt n s.yard.next_draft) as (λ b. nat_lt n s.yard.next_draft ≡ b → places_of (with_effect s e) n ≤ 1) [
            | true ↦ λ is.
                let drawn : n < s.yard.next_draft = ltb-true n s.yard.next_draft is in
                omega (arith, places-counted grace now s n e may, never-again s e n drawn, old.drawn n drawn)
            | false ↦ λ is.
                let later : s.yard.next_draft ≤ n = ltb-false n s.yard.next_draft is in
                omega (arith, places-counted grace now s n e may, one-at-most (is_draw e && (s.yard.next_draft == n)), old.later n later)
          ] refl;
      later = λ n above.
          let later : s.yard.next_draft ≤ n = omega (arith, above, next) in
          omega (arith, places-counted grace now s n e may, old.later n later, not-drawn s e n above);
      none =
          let undrawn : drawn_by e s 0 ≡ 0 = never-again s e 0 old.begun in
          omega (arith, places-counted grace now s 0 e may, undrawn, old.none);
      begun = omega (arith, next, old.begun);
      lent = lent-kept grace now s e apart may old.lent;
    }
