-- Merging is associative, and changes nothing of one document.
use Rattle.std.proofs.Common.{◌≡◌, ℕ, Bool, true, false, cond, ◌&&◌, List, [], ◌∷◌, map, refl, sym, ap, ◌∙◌, Option, Some, None}
use Rattle.std.specs.Prelude.{if◌then◌else◌}
use Rattle.std.specs.BTreeMap.{insert_entry, is_at}
use Rattle.std.specs.BTreeSet.{insert_key}
use Rattle.std.specs.Cmp.{IsTotalOrder, Equal-is}
use Rattle.std.specs.FinMap.Entries.{below_all, by_order, find, find-put, find_tied, is_sorted, put, same_entries}
use Rattle.std.specs.List.{list_all}
use Rattle.std.specs.Map.{lookup}
use Rattle.std.specs.Ordering.{eq_by_cmp, is_eq, is_lt, match_ordering, ordering_reverse}
use Rattle.std.specs.declared.cmp.Ordering.{Ordering}
use Rattle.std.specs.declared.cmp.Ordering.TheVariants.{Less, Equal, Greater}
use Rattle.std.proofs.lemmas.Cmp.{on_total}
use Rattle.mvn_version.specs.Laws.{list_cmp_total, list_cmp_ties}
use Rattle.mvn_version.specs.Order.{list_cmp}
use Rattle.mvn_metadata.specs.declared.pair.Pair.{Pair}
use Rattle.mvn_metadata.specs.declared.pair.SnapshotBuild.{SnapshotBuild}
use Rattle.mvn_metadata.specs.Document.{greatest}
use Rattle.mvn_metadata.specs.Form.{is_rising}
use Rattle.mvn_metadata.specs.Merge.{Entry, is_newer, with_versions, with_entry, with_entries}
use Rattle.mvn_metadata.specs.Order.{build_cmp, build_cmp_total, pair_cmp, pair_cmp_total}
use Rattle.mvn_metadata.proofs.Bools.{first, second}
use Rattle.mvn_metadata.proofs.MergeLemmas.{holds, insert_entry_is_put, is_sorted-with_entries, is_rising-with_versions, pair_cmp_ties}

-- ---- the greatest of optional values
module _ {A : Type 0} {cmp : A → A → Ordering} (o : IsTotalOrder cmp) where
  not_below : (x y z : A) (r s t : Ordering) → cmp x y ≡ r → cmp y z ≡ s → cmp x z ≡ t → is_lt r ≡ false → is_lt s ≡ false → is_lt t ≡ false
  not_below x y z r s Equal p q u f g = refl
  not_below x y z r s Greater p q u f g = refl
  not_below x y z Less s Less p q u f g = absurd cc
  not_below x y z r Less Less p q u f g = absurd cc
  not_below x y z Equal Equal Less p q u f g = absurd (let e : Equal ≡ Less = sym q ∙ sym (o.congr x y z p) ∙ u in cc)
  not_below x y z Equal Greater Less p q u f g = absurd (let e : Greater ≡ Less = sym q ∙ sym (o.congr x y z p) ∙ u in cc)
  not_below x y z Greater s Less p q u f g =
      let back : cmp y x ≡ Less = o.antisymm y x ∙ ap ordering_reverse p in
      absurd (let e : false ≡ true = sym g ∙ ap is_lt (sym q ∙ o.trans y x z back u) in cc)

  chosen_three : (x y z : A) (a b c : Bool) → (a ≡ true → b ≡ true → c ≡ true) → (a ≡ false → b ≡ false → c ≡ false) → (if a then (if b then z else y) else (if c then z else x)) ≡ (if b then (if c then z else x) else (if a then y else x))
  chosen_three x y z true true c f g = ap (λ t. if t then z else x) (sym (f refl refl))
  chosen_three x y z true false c f g = refl
  chosen_three x y z false true c f g = refl
  chosen_three x y z false false c f g = ap (λ t. if t then z else x) (g refl refl)

  below_through : (x y z : A) (r s : Ordering) → cmp x y ≡ r → cmp y z ≡ s → is_lt r ≡ true → is_lt s ≡ true → is_lt (cmp x z) ≡ true
  below_through x y z Less Less p q f g = ap is_lt (o.trans x y z p q)
  below_through x y z Less Equal p q f g = absurd cc
  below_through x y z Less Greater p q f g = absurd cc
  below_through x y z Equal s p q f g = absurd cc
  below_through x y z Greater s p q f g = absurd cc

  lifted : (x y z : A) (a b : Bool) → (if is_lt (cmp (if a then y else x) z) then z else (if a then y else x)) ≡ (if a then (if is_lt (cmp y z) then z else y) else (if is_lt (cmp x z) then z else x))
  lifted x y z true b = refl
  lifted x y z false b = refl

  lifted_right : (x y z : A) (b : Bool) → (if is_lt (cmp x (if b then z else y)) then (if b then z else y) else x) ≡ (if b then (if is_lt (cmp x z) then z else x) else (if is_lt (cmp x y) then y else x))
  lifted_right x y z true = refl
  lifted_right x y z false = refl

  pub greatest-greatest : (a b c : Option A) → greatest cmp a (greatest cmp b c) ≡ greatest cmp (greatest cmp a b) c
  greatest-greatest None b c = refl
  greatest-greatest (Some x) None c = refl
  greatest-greatest (Some x) (Some y) None = refl
  greatest-greatest (Some x) (Some y) (Some z) =
      let a = is_lt (cmp x y) in
      let b = is_lt (cmp y z) in
      ap Some (lifted_right x y z b
      ∙ sym (chosen_three x y z a b (is_lt (cmp x z))
      (below_through x y z (cmp x y) (cmp y z) refl refl)
      (not_below x y z (cmp x y) (cmp y z) (cmp x z) refl refl refl))
      ∙ sym (lifted x y z a b))

pub greatest_none : {A : Type 0} (cmp : A → A → Ordering) (a : Option A) → greatest cmp a None ≡ a
greatest_none cmp None = refl
greatest_none cmp (Some x) = refl

pub greatest_itself : {A : Type 0} (cmp : A → A → Ordering) (a : Option A) → greatest cmp a a ≡ a
greatest_itself cmp None = refl
greatest_itself cmp (Some x) = elim (is_lt (cmp x x)) as (λ b. Some (if b then x else x) ≡ Some x) [ true ↦ refl | false ↦ refl ]

-- ---- entries as a map
abbrev snapshot_build_cmp : SnapshotBuild → SnapshotBuild → Ordering
snapshot_build_cmp u v = build_cmp u.build v.build

snapshot_build_cmp_total : IsTotalOrder snapshot_build_cmp
snapshot_build_cmp_total = on_total (λ (h : SnapshotBuild). h.build) build_cmp_total

abbrev newest : Option SnapshotBuild → Option SnapshotBuild → Option SnapshotBuild
newest u v = greatest snapshot_build_cmp u v

lookup_is_find : (q : Pair) (es : List Entry) → lookup (is_at (pair_cmp q)) es ≡ find pair_cmp q es
lookup_is_find q [] = refl
lookup_is_find q (e ∷ es) = ap (cond (eq_by_cmp pair_cmp q e.0) (Some e.1)) (lookup_is_find q es)

newer_counts : (v : SnapshotBuild) (u : Option SnapshotBuild) → is_newer v u ≡ true → newest u (Some v) ≡ Some v
newer_counts v None h = refl
newer_counts v (Some u) h = ap (λ t. Some (if t then v else u)) h

older_passes : (v : SnapshotBuild) (u : Option SnapshotBuild) → is_newer v u ≡ false → newest u (Some v) ≡ u
older_passes v None h = absurd cc
older_passes v (Some u) h = ap (λ t. Some (if t then v else u)) h

tie : (r : Ordering) → is_eq r ≡ true → r ≡ Equal
tie r e = (Equal-is r).0 e

found_same : (q k : Pair) (es : List Entry) → eq_by_cmp pair_cmp q k ≡ true → find pair_cmp q es ≡ lookup (is_at (pair_cmp k)) es
found_same q k es e = sym (find_tied pair_cmp pair_cmp_total q k (tie (pair_cmp q k) e) es) ∙ sym (lookup_is_find k es)

find-with_entry : (q : Pair) (es : List Entry) (e : Entry) → find pair_cmp q (with_entry es e) ≡ newest (find pair_cmp q es) (cond (eq_by_cmp pair_cmp q e.0) (Some e.1) None)
find-with_entry q es e =
    let there = lookup (is_at (pair_cmp e.0)) es in
    elim (is_newer e.1 there) as (λ b. is_newer e.1 there ≡ b → find pair_cmp q (if b then insert_entry pair_cmp es e.0 e.1 else es) ≡ newest (find pair_cmp q es) (cond (eq_by_cmp pair_cmp q e.0) (Some e.1) None)) [
      | true ↦ λ n. ap (find pair_cmp q) (insert_entry_is_put pair_cmp es e.0 e.1) ∙ find-put pair_cmp pair_cmp_total q e.0 e.1 es
          ∙ elim (eq_by_cmp pair_cmp q e.0) as (λ t. eq_by_cmp pair_cmp q e.0 ≡ t → cond t (Some e.1) (find pair_cmp q es) ≡ newest (find pair_cmp q es) (cond t (Some e.1) None)) [
            | true ↦ λ t. sym (ap (λ u. newest u (Some e.1)) (found_same q e.0 es t) ∙ newer_counts e.1 there n)
            | false ↦ λ t. sym (greatest_none snapshot_build_cmp (find pair_cmp q es))
          ] refl
      | false ↦ λ n. elim (eq_by_cmp pair_cmp q e.0) as (λ t. eq_by_cmp pair_cmp q e.0 ≡ t → find pair_cmp q es ≡ newest (find pair_cmp q es) (cond t (Some e.1) None)) [
        | true ↦ λ t. found_same q e.0 es t ∙ sym (ap (λ u. newest u (Some e.1)) (found_same q e.0 es t) ∙ older_passes e.1 there n)
        | false ↦ λ t. sym (greatest_none snapshot_build_cmp (find pair_cmp q es))
      ] refl
    ] refl

less : (r : Ordering) → is_lt r ≡ true → r ≡ Less
less Less h = refl
less Equal h = absurd cc
less Greater h = absurd cc

find_below : (q k : Pair) (es : List Entry) → pair_cmp q k ≡ Equal → below_all pair_cmp k es ≡ true → find pair_cmp q es ≡ None
find_below q k [] t h = refl
find_below q k (e ∷ es) t h =
    let below : pair_cmp q e.0 ≡ Less = pair_cmp_total.congr q k e.0 t ∙ less (pair_cmp k e.0) (first (is_lt (pair_cmp k e.0)) (below_all pair_cmp k es) h) in
    ap (λ r. cond (is_eq r) (Some e.1) (find pair_cmp q es)) below ∙ find_below q k es t (second (is_lt (pair_cmp k e.0)) (below_all pair_cmp k es) h)

pub find-with_entries : (q : Pair) (es fs : List Entry) → is_sorted pair_cmp fs ≡ true → find pair_cmp q (with_entries es fs) ≡ newest (find pair_cmp q es) (find pair_cmp q fs)
find-with_entries q es [] h = sym (greatest_none snapshot_build_cmp (find pair_cmp q es))
find-with_entries q es (f ∷ fs) h =
    let below = first (below_all pair_cmp f.0 fs) (is_sorted pair_cmp fs) h in
    find-with_entries q (with_entry es f) fs (second (below_all pair_cmp f.0 fs) (is_sorted pair_cmp fs) h)
    ∙ ap (λ u. newest u (find pair_cmp q fs)) (find-with_entry q es f)
    ∙ elim (eq_by_cmp pair_cmp q f.0) as (λ t. eq_by_cmp pair_cmp q f.0 ≡ t → newest (newest (find pair_cmp q es) (cond t (Some f.1) None)) (find pair_cmp q fs) ≡ newest (find pair_cmp q es) (cond t (Some f.1) (find pair_cmp q fs))) [
      | true ↦ λ t. let none = find_below q f.0 fs (tie (pair_cmp q f.0) t) below in
          ap (newest (newest (find pair_cmp q es) (Some f.1))) none ∙ greatest_none snapshot_build_cmp (newest (find pair_cmp q es) (Some f.1))
      | false ↦ λ t. ap (λ u. newest u (find pair_cmp q fs)) (greatest_none snapshot_build_cmp (find pair_cmp q es))
    ] refl

same_map : (es fs : List Entry) → is_sorted pair_cmp es ≡ true → is_sorted pair_cmp fs ≡ true → ((q : Pair) → find pair_cmp q es ≡ find pair_cmp q fs) → es ≡ fs
same_map es fs g h is =
    same_entries pair_cmp pair_cmp_total pair_cmp_ties es fs (holds (is_sorted pair_cmp es) g) (holds (is_sorted pair_cmp fs) h) is

pub with_entries_assoc : (es fs gs : List Entry) → is_sorted pair_cmp es ≡ true → is_sorted pair_cmp fs ≡ true → is_sorted pair_cmp gs ≡ true → with_entries es (with_entries fs gs) ≡ with_entries (with_entries es fs) gs
with_entries_assoc es fs gs e f g =
    same_map (with_entries es (with_entries fs gs)) (with_entries (with_entries es fs) gs)
    (is_sorted-with_entries es (with_entries fs gs) e)
    (is_sorted-with_entries (with_entries es fs) gs (is_sorted-with_entries es fs e))
    (λ q. find-with_entries q es (with_entries fs gs) (is_sorted-with_entries fs gs f)
    ∙ ap (newest (find pair_cmp q es)) (find-with_entries q fs gs g)
    ∙ greatest-greatest snapshot_build_cmp_total (find pair_cmp q es) (find pair_cmp q fs) (find pair_cmp q gs)
    ∙ sym (ap (λ u. newest u (find pair_cmp q gs)) (find-with_entries q es fs f))
    ∙ sym (find-with_entries q (with_entries es fs) gs g))

pub with_entries_itself : (es : List Entry) → is_sorted pair_cmp es ≡ true → with_entries es es ≡ es
with_entries_itself es e =
    same_map (with_entries es es) es (is_sorted-with_entries es es e) e
    (λ q. find-with_entries q es es e ∙ greatest_itself snapshot_build_cmp (find pair_cmp q es))

pub with_entries_none : (es : List Entry) → is_sorted pair_cmp es ≡ true → with_entries [] es ≡ es
with_entries_none es e =
    same_map (with_entries [] es) es (is_sorted-with_entries [] es refl) e (λ q. find-with_entries q [] es e)

-- ---- versions as a map to nothing
abbrev mapped : List (List ℕ) → List (List ℕ × Unit {0})
mapped vs = map (λ v. (v, tt)) vs

abbrev either : Option (Unit {0}) → Option (Unit {0}) → Option (Unit {0})
either None b = b
either (Some u) b = Some u

either_none : (a : Option (Unit {0})) → either a None ≡ a
either_none None = refl
either_none (Some u) = refl

either_either : (a b c : Option (Unit {0})) → either a (either b c) ≡ either (either a b) c
either_either None b c = refl
either_either (Some u) b c = refl

either_itself : (a : Option (Unit {0})) → either a a ≡ a
either_itself None = refl
either_itself (Some u) = refl

put_either : (b : Bool) (a : Option (Unit {0})) → cond b (Some tt) a ≡ either a (cond b (Some tt) None)
put_either true None = refl
put_either true (Some u) = refl
put_either false a = sym (either_none a)

mapped-insert_key : (vs : List (List ℕ)) (v : List ℕ) → mapped (insert_key list_cmp vs v) ≡ put list_cmp v tt (mapped vs)
mapped-insert_key [] v = refl
mapped-insert_key (w ∷ ws) v =
    elim (list_cmp v w) as (λ r. mapped (match_ordering r (v ∷ w ∷ ws) (w ∷ ws) (w ∷ insert_key list_cmp ws v)) ≡ by_order r ((v, tt) ∷ (w, tt) ∷ mapped ws) ((w, tt) ∷ mapped ws) ((w, tt) ∷ put list_cmp v tt (mapped ws))) [
      | Less ↦ refl
      | Equal ↦ refl
      | Greater ↦ ap (λ es. (w, tt) ∷ es) (mapped-insert_key ws v)
    ]

below_mapped : (v : List ℕ) (ws : List (List ℕ)) → below_all list_cmp v (mapped ws) ≡ list_all (λ w. is_lt (list_cmp v w)) ws
below_mapped v [] = refl
below_mapped v (w ∷ ws) = ap (λ b. is_lt (list_cmp v w) && b) (below_mapped v ws)

sorted_mapped : (vs : List (List ℕ)) → is_sorted list_cmp (mapped vs) ≡ is_rising list_cmp vs
sorted_mapped [] = refl
sorted_mapped (v ∷ vs) = λ i. below_mapped v vs i && sorted_mapped vs i

find-with_versions : (q : List ℕ) (vs ws : List (List ℕ)) → find list_cmp q (mapped (with_versions vs ws)) ≡ either (find list_cmp q (mapped vs)) (find list_cmp q (mapped ws))
find-with_versions q vs [] = sym (either_none (find list_cmp q (mapped vs)))
find-with_versions q vs (w ∷ ws) =
    let here = find list_cmp q (mapped vs) in
    let rest = find list_cmp q (mapped ws) in
    find-with_versions q (insert_key list_cmp vs w) ws
    ∙ ap (λ a. either a rest)
    (ap (find list_cmp q) (mapped-insert_key vs w) ∙ find-put list_cmp list_cmp_total q w tt (mapped vs) ∙ put_either (eq_by_cmp list_cmp q w) here)
    ∙ elim (eq_by_cmp list_cmp q w) as (λ t. either (either here (cond t (Some tt) None)) rest ≡ either here (cond t (Some tt) rest)) [
      | true ↦ sym (either_either here (Some tt) rest)
      | false ↦ ap (λ a. either a rest) (either_none here)
    ]

unmapped : (vs : List (List ℕ)) → map (λ (e : List ℕ × Unit {0}). e.0) (mapped vs) ≡ vs
unmapped [] = refl
unmapped (v ∷ vs) = ap (λ ws. v ∷ ws) (unmapped vs)

same_set : (vs ws : List (List ℕ)) → is_rising list_cmp vs ≡ true → is_rising list_cmp ws ≡ true → ((q : List ℕ) → find list_cmp q (mapped vs) ≡ find list_cmp q (mapped ws)) → vs ≡ ws
same_set vs ws g h is =
    sym (unmapped vs)
    ∙ ap (map (λ (e : List ℕ × Unit {0}). e.0))
    (same_entries list_cmp list_cmp_total list_cmp_ties (mapped vs) (mapped ws)
    (holds (is_sorted list_cmp (mapped vs)) (sorted_mapped vs ∙ g)) (holds (is_sorted list_cmp (mapped ws)) (sorted_mapped ws ∙ h)) is)
    ∙ unmapped ws

pub with_versions_assoc : (us vs ws : List (List ℕ)) → is_rising list_cmp us ≡ true → is_rising list_cmp vs ≡ true → with_versions us (with_versions vs ws) ≡ with_versions (with_versions us vs) ws
with_versions_assoc us vs ws g h =
    same_set (with_versions us (with_versions vs ws)) (with_versions (with_versions us vs) ws)
    (is_rising-with_versions us (with_versions vs ws) g)
    (is_rising-with_versions (with_versions us vs) ws (is_rising-with_versions us vs g))
    (λ q. find-with_versions q us (with_versions vs ws)
    ∙ ap (either (find list_cmp q (mapped us))) (find-with_versions q vs ws)
    ∙ either_either (find list_cmp q (mapped us)) (find list_cmp q (mapped vs)) (find list_cmp q (mapped ws))
    ∙ sym (ap (λ a. either a (find list_cmp q (mapped ws))) (find-with_versions q us vs))
    ∙ sym (find-with_versions q (with_versions us vs) ws))

pub with_versions_itself : (vs : List (List ℕ)) → is_rising list_cmp vs ≡ true → with_versions vs vs ≡ vs
with_versions_itself vs g =
    same_set (with_versions vs vs) vs (is_rising-with_versions vs vs g) g
    (λ q. find-with_versions q vs vs ∙ either_itself (find list_cmp q (mapped vs)))

pub with_versions_none : (vs : List (List ℕ)) → is_rising list_cmp vs ≡ true → with_versions [] vs ≡ vs
with_versions_none vs g =
    same_set (with_versions [] vs) vs (is_rising-with_versions [] vs refl) g (λ q. find-with_versions q [] vs)
