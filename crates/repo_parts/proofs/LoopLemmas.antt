-- What the loops of the purge keep.
use native.Mathlib.Omega.{arith}
use Rattle.std.proofs.Common.{◌≡◌, ℕ, ◌+◌, ◌-◌, ◌<◌, ◌≤◌, min, List, [], ◌∷◌, ◌++◌, length, map, take, drop, get_or, set, suc, refl, sym, ap, ◌∙◌, subst, length-append}
use Rattle.std.specs.List.{flat_map}
use Rattle.std.proofs.lemmas.List.{append_assoc, drop_more, length-map, length-take, length-take-le, map-append, take_more, take-map}
use Rattle.std.specs.Prelude.{filter}
use Rattle.std.specs.List.{AllByRecursion}
use Rattle.std.proofs.lemmas.Grind.{flat_map-append}
use Rattle.hosted_repo.specs.Expired.{blob_of}
use Rattle.ordered_rows.specs.Recording.{IsRemoved}
use Rattle.ordered_rows.specs.Rows.{rows_after_all}
use Rattle.repo_model.specs.Data.{Row, Hosted}
use Rattle.repo_model.specs.declared.item.Item.{Item}
use Rattle.repo_model.specs.Effect.{Effect, condemning, expires, items_of, recorded, without_number}
use Rattle.repo_model.specs.Purge.{expire_all, expired_of, is_over, most_rows}
use Rattle.repo_laws.proofs.Making.{all-append}
use Rattle.blob_yard.specs.Numbers.{Numbers}
use Rattle.repo_parts.specs.Purge.{AreKeptOnce, condemned_by, dropped_by, kept_without, shares}
use Rattle.repo_parts.proofs.PurgeLemmas.{take-both}

module _ (grace now : ℕ) where
  -- what is found of the repositories from a place on is still to come
  pub record IsFound (repos : List Hosted) (i : ℕ) (change : List Item) (counts blobs : List ℕ) : Type 0 where
    pub counts_so : shares grace now most_rows repos ≡ counts ++ shares grace now (most_rows - length change) (drop i repos)
    pub blobs_so : map blob_of (expire_all grace now repos) ≡ blobs ++ map blob_of (take (most_rows - length change) (flat_map (expired_of grace now) (drop i repos)))
    pub change_so : recorded (expire_all grace now repos) ≡ change ++ recorded (take (most_rows - length change) (flat_map (expired_of grace now) (drop i repos)))
    pub removed : AllByRecursion IsRemoved change

  one-each : (id : List ℕ) (rows : List Row) → length (recorded (map (λ (row : Row). expires id row.path row.blob.number) rows)) ≡ length rows
  one-each id [] = refl
  one-each id (row ∷ rows) = ap suc (one-each id rows)

  all-removed : (id : List ℕ) (rows : List Row) → AllByRecursion IsRemoved (recorded (map (λ (row : Row). expires id row.path row.blob.number) rows))
  all-removed id [] = tt
  all-removed id (row ∷ rows) = (tt, all-removed id rows)

  -- the first rows of a repository whose grace is over
  abbrev pub mine_of : ℕ → Hosted → List Effect
  mine_of k h = take k (expired_of grace now h)

  abbrev over : Hosted → List Row
  over h = filter (λ (row : Row). is_over grace now row.phase) h.rows

  mine-so : (k : ℕ) (h : Hosted) → mine_of k h ≡ map (λ (row : Row). expires h.rule.id row.path row.blob.number) (take k (over h))
  mine-so k h = take-map (λ (row : Row). expires h.rule.id row.path row.blob.number) k (over h)

  mine-count : (k : ℕ) (h : Hosted) → length (recorded (mine_of k h)) ≡ min k (length (expired_of grace now h))
  mine-count k h =
      ap (λ es. length (recorded es)) (mine-so k h) ∙ one-each h.rule.id (take k (over h))
      ∙ sym (length-map (take k (over h)) (λ (row : Row). expires h.rule.id row.path row.blob.number)) ∙ ap length (sym (mine-so k h)) ∙ length-take k (expired_of grace now h)

  mine-removed : (k : ℕ) (h : Hosted) → AllByRecursion IsRemoved (recorded (mine_of k h))
  mine-removed k h = subst (λ es. AllByRecursion IsRemoved (recorded es)) (sym (mine-so k h)) (all-removed h.rule.id (take k (over h)))

  pub found-start : (repos : List Hosted) → IsFound repos 0 [] [] []
  found-start repos = record { counts_so = refl; blobs_so = refl; change_so = refl; removed = tt }

  pub found-more : (repos : List Hosted) (i n : ℕ) (h : Hosted) (change : List Item) (counts blobs : List ℕ) → i < length repos → h ≡ get_or repos i h
      → n ≡ min (most_rows - length change) (length (expired_of grace now h)) → IsFound repos i change counts blobs
      → IsFound repos (i + 1) (change ++ recorded (mine_of (most_rows - length change) h)) (counts ++ n ∷ []) (blobs ++ map blob_of (mine_of (most_rows - length change) h))
  found-more repos i n h change counts blobs within at count old =
      let left = most_rows - length change in
      let all = expired_of grace now h in
      let mine = mine_of left h in
      let later = drop (i + 1) repos in
      let rest : drop i repos ≡ h ∷ later = drop_more repos i h within ∙ ap (λ k. k ∷ later) (sym at) in
      let fewer : left - length all ≡ most_rows - length (change ++ recorded mine) = omega (arith, length-append change (recorded mine), mine-count left h) in
      let behind = take (left - length all) (flat_map (expired_of grace now) later) in
      record {
        counts_so =
            old.counts_so
            ∙ ap (λ hs. counts ++ shares grace now left hs) rest
            ∙ ap (λ k. counts ++ k ∷ shares grace now (left - length all) later) (sym count)
            ∙ ap (λ k. counts ++ n ∷ shares grace now k later) fewer
            ∙ sym (append_assoc counts (n ∷ []) (shares grace now (most_rows - length (change ++ recorded mine)) later));
        blobs_so =
            old.blobs_so
            ∙ ap (λ hs. blobs ++ map blob_of (take left (flat_map (expired_of grace now) hs))) rest
            ∙ ap (λ es. blobs ++ map blob_of es) (take-both grace now left all (flat_map (expired_of grace now) later))
            ∙ ap (λ ns. blobs ++ ns) (map-append blob_of mine behind)
            ∙ sym (append_assoc blobs (map blob_of mine) (map blob_of behind))
            ∙ ap (λ k. (blobs ++ map blob_of mine) ++ map blob_of (take k (flat_map (expired_of grace now) later))) fewer;
        change_so =
            old.change_so
            ∙ ap (λ hs. change ++ recorded (take left (flat_map (expired_of grace now) hs))) rest
            ∙ ap (λ es. change ++ recorded es) (take-both grace now left all (flat_map (expired_of grace now) later))
            ∙ ap (λ is. change ++ is) (flat_map-append items_of mine behind)
            ∙ sym (append_assoc change (recorded mine) (recorded behind))
            ∙ ap (λ k. (change ++ recorded mine) ++ recorded (take k (flat_map (expired_of grace now) later))) fewer;
        removed = all-append IsRemoved change (recorded mine) old.removed (mine-removed left h);
      }

  -- one more repository without rows whose grace is over
  abbrev without_rows : ℕ → Hosted → Hosted
  without_rows n h = record h { rows = rows_after_all (take n (expired_of grace now h)) h.rows }

  dropped-at : (ns : List ℕ) (hosted : List Hosted) (d : Hosted) → length ns < length hosted → get_or (dropped_by grace now ns hosted) (length ns) d ≡ get_or hosted (length ns) d
  dropped-at [] hosted d few = refl
  dropped-at (n ∷ ns) [] d few = absurd (omega (arith, few))
  dropped-at (n ∷ ns) (h ∷ hosted) d few = dropped-at ns hosted d (omega (arith, few))

  dropped-more : (ns : List ℕ) (n : ℕ) (hosted : List Hosted) (d : Hosted) → length ns < length hosted
      → set (dropped_by grace now ns hosted) (length ns) (without_rows n (get_or hosted (length ns) d)) ≡ dropped_by grace now (ns ++ n ∷ []) hosted
  dropped-more [] n [] d few = absurd (omega (arith, few))
  dropped-more [] n (h ∷ hosted) d few = refl
  dropped-more (m ∷ ns) n [] d few = absurd (omega (arith, few))
  dropped-more (m ∷ ns) n (h ∷ hosted) d few = ap (λ hs. without_rows m h ∷ hs) (dropped-more ns n hosted d (omega (arith, few)))

  pub drop-more : (counts : List ℕ) (hosted items : List Hosted) (i n : ℕ) (old new : Hosted) → length counts ≤ length hosted → i < length counts → n ≡ get_or counts i n
      → items ≡ dropped_by grace now (take i counts) hosted → old ≡ get_or items i old → new ≡ without_rows n old → set items i new ≡ dropped_by grace now (take (i + 1) counts) hosted
  drop-more counts hosted items i n old new few within at before here made =
      let ns = take i counts in
      let len : length ns ≡ i = length-take-le i counts (omega (arith, within)) in
      let room : length ns < length hosted = omega (arith, len, within, few) in
      let same : get_or hosted (length ns) old ≡ old =
      sym (dropped-at ns hosted old room) ∙ ap (λ k. get_or (dropped_by grace now ns hosted) k old) len ∙ ap (λ hs. get_or hs i old) (sym before) ∙ sym here in
      let more : take (i + 1) counts ≡ ns ++ n ∷ [] = take_more counts i n within ∙ ap (λ k. ns ++ k ∷ []) (sym at) in
      ap (λ hs. set hs i new) before
      ∙ ap (λ k. set (dropped_by grace now ns hosted) k new) (sym len)
      ∙ ap (set (dropped_by grace now ns hosted) (length ns)) (made ∙ ap (without_rows n) (sym same))
      ∙ dropped-more ns n hosted old room
      ∙ ap (λ ks. dropped_by grace now ks hosted) (sym more)

-- blobs that are still to become garbage
pub record IsCondemned (blobs : List ℕ) (start : Numbers) (i : ℕ) (yard : Numbers) : Type 0 where
  pub yard_so : condemned_by blobs start.yard ≡ condemned_by (drop i blobs) yard.yard
  pub kept_so : kept_without blobs start.kept ≡ kept_without (drop i blobs) yard.kept
  pub once : AreKeptOnce (drop i blobs) yard.kept

pub condemned-more : (blobs : List ℕ) (start : Numbers) (i n : ℕ) (yard : Numbers) → i < length blobs → n ≡ get_or blobs i n → IsCondemned blobs start i yard
    → IsCondemned blobs start (i + 1) (record { yard = condemning n yard.yard; kept = without_number n yard.kept })
condemned-more blobs start i n yard within at old =
    let later = drop (i + 1) blobs in
    let rest : drop i blobs ≡ n ∷ later = drop_more blobs i n within ∙ ap (λ k. k ∷ later) (sym at) in
    record {
      yard_so = old.yard_so ∙ ap (λ ns. condemned_by ns yard.yard) rest;
      kept_so = old.kept_so ∙ ap (λ ns. kept_without ns yard.kept) rest;
      once = (subst (λ ns. AreKeptOnce ns yard.kept) rest old.once).1;
    }
