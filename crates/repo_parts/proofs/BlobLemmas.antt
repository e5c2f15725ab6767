-- The blobs of rows that go: each is in use, stands among them once, and is no remaining row's.
use native.Mathlib.Omega.{arith}
use Rattle.std.proofs.Common.{◌≡◌, ℕ, ◌+◌, ◌≤◌, ◌==◌, Bool, true, false, cond, List, [], ◌∷◌, ◌++◌, map, take, zero, suc, refl, ap, ◌∙◌}
use Rattle.std.specs.Prelude.{IsTrue, count_by, filter, nat_lt}
use Rattle.std.specs.List.{AllByRecursion, flat_map}
use borrow.Author.Tests.{ltb-false, ltb-true}
use Rattle.std.proofs.lemmas.List.{map-append}
use Rattle.std.proofs.lemmas.List.Sums.{sum_by-append, sum_by-cons}
use Rattle.repo_model.specs.Data.{Row, Hosted}
use Rattle.repo_model.specs.Settings.{Settings}
use Rattle.repo_model.specs.State.{State, Yard, is_among}
use Rattle.repo_model.specs.Effect.{Effect, expires, with_effects}
use Rattle.repo_model.specs.Purge.{expired_of, expire_all, is_over, most_rows}
use Rattle.repo_laws.specs.Laws.{cached_with, count_of, places_of, rows_with}
use Rattle.repo_laws.specs.Sound.{AreByPath, AreNamedApart, OnePlace, Sound}
use Rattle.repo_laws.proofs.ByPath.{all-apart, rows-kept}
use Rattle.repo_laws.proofs.Counts.{count-cons, one_if}
use Rattle.repo_laws.proofs.Histories.{all-keep}
use Rattle.repo_laws.proofs.Lists.{all-take}
use Rattle.repo_laws.proofs.Making.{all-append}
use Rattle.repo_laws.proofs.Places.{one-place-kept}
use Rattle.repo_laws.proofs.Purges.{expires-all}
use Rattle.hosted_repo.specs.Expired.{blob_of}
use Rattle.repo_parts.specs.Hosted.{AreInUse}
use Rattle.repo_parts.specs.Purge.{AreKeptOnce, condemned_by}
use Rattle.repo_parts.proofs.AmongLemmas.{count-condemned, kept-once}
use Rattle.repo_parts.proofs.ListLemmas.{all-map}
use Rattle.repo_parts.proofs.UseLemmas.{RowsUsed}

-- a number stands in one place
pub placed-once : (s : State) → OnePlace s → (n : ℕ) → places_of s n ≤ 1
placed-once s places n = by (nat_lt n s.yard.next_draft) refl where
  by : (b : Bool) → nat_lt n s.yard.next_draft ≡ b → places_of s n ≤ 1
  by true is = places.drawn n (ltb-true n s.yard.next_draft is)
  by false is = omega (arith, places.later n (ltb-false n s.yard.next_draft is))

record InPlace (t : State) : Type 0 where
  rows_so : AllByRecursion (λ (h : Hosted). AreByPath h.rows) t.hosted
  places_so : OnePlace t

module _ (grace now : ℕ) where
  abbrev goes : List ℕ → List Row → List Effect
  goes id rows = map (λ row. expires id row.path row.blob.number) rows

  abbrev IsOver : Row → Bool
  IsOver row = is_over grace now row.phase

  -- each of the blobs is in use
  abbrev UsedBy : List ℕ → Effect → Type 0
  UsedBy kept e = IsTrue (is_among (blob_of e) kept)

  goes-used : (kept id : List ℕ) (rows : List Row) → RowsUsed kept rows → AllByRecursion (UsedBy kept) (goes id (filter IsOver rows))
  goes-used kept id [] used = tt
  goes-used kept id (row ∷ rows) used =
      elim (IsOver row) as (λ b. AllByRecursion (UsedBy kept) (goes id (cond b (row ∷ filter IsOver rows) (filter IsOver rows))))
      [ true ↦ (used.0, goes-used kept id rows used.1) | false ↦ goes-used kept id rows used.1 ]

  flat-used : (kept : List ℕ) (hosted : List Hosted) → AreInUse kept hosted → AllByRecursion (UsedBy kept) (flat_map (expired_of grace now) hosted)
  flat-used kept [] used = tt
  flat-used kept (h ∷ hosted) used =
      all-append (UsedBy kept) (expired_of grace now h) (flat_map (expired_of grace now) hosted) (goes-used kept h.rule.id h.rows used.0) (flat-used kept hosted used.1)

  blobs-used : (kept : List ℕ) (hosted : List Hosted) → AreInUse kept hosted → AllByRecursion (λ m. IsTrue (is_among m kept)) (map blob_of (expire_all grace now hosted))
  blobs-used kept hosted used =
      all-map blob_of (λ m. IsTrue (is_among m kept)) (expire_all grace now hosted) (all-take (UsedBy kept) most_rows (flat_map (expired_of grace now) hosted) (flat-used kept hosted used))

  -- none of them stands there more often than among the rows
  goes-few : (n : ℕ) (id : List ℕ) (rows : List Row) → count_of n (map blob_of (goes id (filter IsOver rows))) ≤ count_by (λ (row : Row). row.blob.number == n) rows
  goes-few n id [] = omega arith
  goes-few n id (row ∷ rows) =
      let numbers : List Row → List ℕ = λ rs. map blob_of (goes id rs) in
      let fewer = goes-few n id rows in
      let more = count-cons (λ (r : Row). r.blob.number == n) row rows in
      elim (IsOver row) as (λ b. count_of n (numbers (cond b (row ∷ filter IsOver rows) (filter IsOver rows))) ≤ count_by (λ (r : Row). r.blob.number == n) (row ∷ rows)) [
        | true ↦ omega (arith, more, fewer, count-cons (λ k. k == n) row.blob.number (numbers (filter IsOver rows)))
        | false ↦ omega (arith, more, fewer)
      ]

  flat-few : (n : ℕ) (hosted : List Hosted) → count_of n (map blob_of (flat_map (expired_of grace now) hosted)) ≤ rows_with n hosted
  flat-few n [] = omega arith
  flat-few n (h ∷ hosted) =
      let per : Hosted → ℕ = λ g. count_by (λ (row : Row). row.blob.number == n) g.rows in
      let mine = map blob_of (expired_of grace now h) in
      let rest = map blob_of (flat_map (expired_of grace now) hosted) in
      let split : count_of n (map blob_of (flat_map (expired_of grace now) (h ∷ hosted))) ≡ count_of n (mine ++ rest) = ap (count_of n) (map-append blob_of (expired_of grace now h) (flat_map (expired_of grace now) hosted)) in
      let both : count_of n (mine ++ rest) ≡ count_of n mine + count_of n rest = sum_by-append (λ m. one_if (m == n)) mine rest in
      let more : rows_with n (h ∷ hosted) ≡ per h + rows_with n hosted = sum_by-cons per h hosted in
      omega (arith, split, both, more, goes-few n h.rule.id h.rows, flat-few n hosted)

  take-few : (n k : ℕ) (es : List Effect) → count_of n (map blob_of (take k es)) ≤ count_of n (map blob_of es)
  take-few n zero es = omega arith
  take-few n (suc k) [] = omega arith
  take-few n (suc k) (e ∷ es) =
      omega (arith, count-cons (λ m. m == n) (blob_of e) (map blob_of (take k es)), count-cons (λ m. m == n) (blob_of e) (map blob_of es), take-few n k es)

  module _ (s : State) (places : OnePlace s) where
    abbrev pub gone : List ℕ
    gone = map blob_of (expire_all grace now s.hosted)

    -- no proxy's file has a blob that goes
    pub none-of-proxies : (n : ℕ) → 1 ≤ cached_with n s.proxies → count_of n gone ≡ 0
    none-of-proxies n some = omega (arith, take-few n most_rows (flat_map (expired_of grace now) s.hosted), flat-few n s.hosted, placed-once s places n, some)

    -- each blob that goes is in use, and none stands there twice
    pub gone-once : (kept : List ℕ) → AreInUse kept s.hosted → AreKeptOnce gone kept
    gone-once kept used =
        kept-once gone kept (blobs-used kept s.hosted used)
        (λ n. omega (arith, take-few n most_rows (flat_map (expired_of grace now) s.hosted), flat-few n s.hosted, placed-once s places n))

    module _ (settings : Settings) (order : Sound settings s) (named : AreNamedApart settings.hosted) where
      abbrev pub left : State
      left = with_effects s (expire_all grace now s.hosted)

      places-left : OnePlace left
      places-left =
          (all-keep grace now InPlace
          (λ t e may old. record { rows_so = rows-kept grace now t e may old.rows_so; places_so = one-place-kept grace now t e (all-apart t.hosted old.rows_so) may old.places_so })
          (expire_all grace now s.hosted) s (expires-all grace now s settings named order.rules (all-apart s.hosted order.rows)) (record { rows_so = order.rows; places_so = places })).places_so

      -- a number that a row has is none of those that go
      pub none-gone : (yard : left.yard ≡ condemned_by gone s.yard) (n : ℕ) → 1 ≤ rows_with n left.hosted → count_of n gone ≡ 0
      none-gone yard n some =
          let all : count_of n left.yard.condemned ≡ count_of n gone + count_of n s.yard.condemned = ap (λ (y : Yard). count_of n y.condemned) yard ∙ count-condemned n gone s.yard in
          omega (arith, placed-once left places-left n, all, some)
