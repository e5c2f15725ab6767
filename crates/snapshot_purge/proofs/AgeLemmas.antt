-- The builds of a directory, file after file, in whatever order.
use Rattle.std.proofs.Common.{◌≡◌, ℕ, ◌+◌, ◌*◌, ◌<◌, Bool, true, false, cond, ◌&&◌, ◌||◌, max, List, [], ◌∷◌, length, get_or, map, filter, count_by, nat_le, nat_lt, Option, Some, None, Result, Ok, Err, Ordering, Less, Equal, Greater, is_eq, nat_cmp, refl, sym, ap, ◌∙◌, subst, arith, ⊎_elim}
use Rattle.std.specs.Prelude.{sum_by, is_ok}
use Rattle.std.specs.Cmp.{Equal-is}
use Rattle.std.specs.BTreeMap.{is_at, insert_entry}
use Rattle.std.specs.List.{list_any}
use Rattle.std.specs.List.Sorted.{IsSorted, IsStrictlySortedBy, IsSearchInRange, IsBinarySearchResult}
use Rattle.std.specs.Map.{lookup, keys_of}
use Rattle.std.specs.Ordering.{is_lt, match_ordering, ordering_reverse, ordering_then, MatchOrdering}
use Rattle.std.proofs.lemmas.Bool.{both_ways, cases_lt, lt-ltb}
use Rattle.std.proofs.lemmas.Cmp.{ranked, tied_back, tied_itself}
use Rattle.std.proofs.lemmas.List.Elements.{filter_agree}
use Rattle.std.proofs.lemmas.List.Folds.{list_any_at, list_any_none}
use Rattle.std.proofs.lemmas.List.Sorted.{searchable_from_sorted}
use Rattle.std.proofs.lemmas.List.Sums.{sum_by-cons}
use Rattle.std.proofs.lemmas.Map.{lookup-none}
use Rattle.std.proofs.lemmas.Map.Entries.{none_below_head}
use Rattle.mvn_coords.specs.Civil.{CivilTime}
use Rattle.mvn_coords.specs.FileName.{BuildOf}
use Rattle.mvn_metadata.specs.Order.{build_cmp, build_cmp_total, time_cmp}
use Rattle.repo_model.specs.Purge.{Aged, aged, due, is_same_build}
use Rattle.snapshot_purge.specs.Ages.{HaveSameBuilds, age_of, latest, shown_age, shown_ages}

-- builds that are the same by their order are equal
then_both : (a b : Ordering) → is_eq (ordering_then a b) ≡ true → (is_eq a ≡ true) × (is_eq b ≡ true)
then_both Less b h = cc
then_both Equal b h = (refl, h)
then_both Greater b h = cc

nat_same : (x y : ℕ) → is_eq (nat_cmp x y) ≡ true → x ≡ y
nat_same x y h = subst (λ o. MatchOrdering o (x < y) (x ≡ y) (y < x)) ((Equal-is (nat_cmp x y)).0 h) (ranked x y (nat_cmp x y) refl)

time_same : (t u : CivilTime) → is_eq (time_cmp t u) ≡ true → t ≡ u
time_same t u h =
    let y = then_both (nat_cmp t.year u.year) _ h in
    let m = then_both (nat_cmp t.month u.month) _ y.1 in
    let d = then_both (nat_cmp t.day u.day) _ m.1 in
    let k = then_both (nat_cmp t.hour u.hour) _ d.1 in
    let n = then_both (nat_cmp t.minute u.minute) _ k.1 in
    let year = nat_same t.year u.year y.0 in
    let month = nat_same t.month u.month m.0 in
    let day = nat_same t.day u.day d.0 in
    let hour = nat_same t.hour u.hour k.0 in
    let minute = nat_same t.minute u.minute n.0 in
    let second = nat_same t.second u.second n.1 in
    λ i. record { year = year i; month = month i; day = day i; hour = hour i; minute = minute i; second = second i }

pub build_same : (b c : BuildOf) → is_same_build b c ≡ true → b ≡ c
build_same b c h =
    let p = then_both (time_cmp b.stamp c.stamp) (nat_cmp b.number c.number) h in
    let stamp = time_same b.stamp c.stamp p.0 in
    let number = nat_same b.number c.number p.1 in
    λ i. record { stamp = stamp i; number = number i }

same_itself : (b : BuildOf) → is_same_build b b ≡ true
same_itself b = ap is_eq (tied_itself build_cmp_total b)

reversed_eq : (o : Ordering) → is_eq (ordering_reverse o) ≡ is_eq o
reversed_eq Less = refl
reversed_eq Equal = refl
reversed_eq Greater = refl

pub same_back : (b c : BuildOf) → is_same_build b c ≡ is_same_build c b
same_back b c = ap is_eq (build_cmp_total.antisymm b c) ∙ reversed_eq (build_cmp c b)

abbrev age : BuildOf → ℕ → Aged
age b accepted = record { build = b; accepted = accepted }

abbrev weight : (Aged → ℕ) → BuildOf → Option ℕ → ℕ
weight f b None = 0
weight f b (Some accepted) = f (age b accepted)

-- one more file
sums-aged : (f : Aged → ℕ) (accepted : ℕ) (b : BuildOf) (builds : List Aged)
    → sum_by f (aged accepted b builds) + weight f b (age_of b builds) ≡ sum_by f builds + f (age b (latest (age_of b builds) accepted))
sums-aged f accepted b [] = omega arith
sums-aged f accepted b (a ∷ builds) =
    elim (is_same_build b a.build)
    as (λ t. is_same_build b a.build ≡ t
    → sum_by f (cond t (age a.build (max a.accepted accepted) ∷ builds) (a ∷ aged accepted b builds)) + weight f b (cond t (Some a.accepted) (age_of b builds))
    ≡ sum_by f (a ∷ builds) + f (age b (latest (cond t (Some a.accepted) (age_of b builds)) accepted))) [
      | true ↦ λ is.
          let here : f (age b a.accepted) ≡ f a = ap (λ c. f (age c a.accepted)) (build_same b a.build is) in
          let there : f (age b (max a.accepted accepted)) ≡ f (age a.build (max a.accepted accepted)) = ap (λ c. f (age c (max a.accepted accepted))) (build_same b a.build is) in
          omega (arith, sum_by-cons f (age a.build (max a.accepted accepted)) builds, sum_by-cons f a builds, here, there)
      | false ↦ λ is. omega (arith, sum_by-cons f a (aged accepted b builds), sum_by-cons f a builds, sums-aged f accepted b builds)
    ] refl

cond_twice : {A : Type 0} (t : Bool) (x y z : A) → cond t x z ≡ cond t x (cond t y z)
cond_twice true x y z = refl
cond_twice false x y z = refl

cond_apart : {A : Type 0} (s t : Bool) (x y z : A) → (s ≡ true → t ≡ true → ⊥) → cond s x (cond t y z) ≡ cond t y (cond s x z)
cond_apart true true x y z h = absurd (h refl refl)
cond_apart true false x y z h = refl
cond_apart false true x y z h = refl
cond_apart false false x y z h = refl

ages-aged : (q : BuildOf) (accepted : ℕ) (b : BuildOf) (builds : List Aged)
    → age_of q (aged accepted b builds) ≡ cond (is_same_build b q) (Some (latest (age_of b builds) accepted)) (age_of q builds)
ages-aged q accepted b [] = ap (λ t. cond t (Some accepted) None) (same_back q b)
ages-aged q accepted b (a ∷ builds) =
    elim (is_same_build b a.build)
    as (λ t. is_same_build b a.build ≡ t
    → age_of q (cond t (age a.build (max a.accepted accepted) ∷ builds) (a ∷ aged accepted b builds))
    ≡ cond (is_same_build b q) (Some (latest (cond t (Some a.accepted) (age_of b builds)) accepted)) (cond (is_same_build q a.build) (Some a.accepted) (age_of q builds))) [
      | true ↦ λ is.
          let turned : is_same_build b q ≡ is_same_build q a.build = same_back b q ∙ ap (is_same_build q) (build_same b a.build is) in
          cond_twice (is_same_build q a.build) (Some (max a.accepted accepted)) (Some a.accepted) (age_of q builds)
          ∙ ap (λ t. cond t (Some (max a.accepted accepted)) (cond (is_same_build q a.build) (Some a.accepted) (age_of q builds))) (sym turned)
      | false ↦ λ is.
          ap (λ o. cond (is_same_build q a.build) (Some a.accepted) o) (ages-aged q accepted b builds)
          ∙ cond_apart (is_same_build q a.build) (is_same_build b q) (Some a.accepted) (Some (latest (age_of b builds) accepted)) (age_of q builds)
          (λ s t. both_ways (is_same_build b a.build) is (ap (is_same_build b) (sym (build_same b q t ∙ build_same q a.build s)) ∙ same_itself b))
    ] refl

-- the entries of a map
lookup-shown : (q : BuildOf) (es : List (BuildOf × ℕ)) → lookup (is_at (build_cmp q)) es ≡ age_of q (shown_ages es)
lookup-shown q [] = refl
lookup-shown q (e ∷ es) = ap (λ o. cond (is_same_build q e.0) (Some e.1) o) (lookup-shown q es)

sums-insert : (f : Aged → ℕ) (es : List (BuildOf × ℕ)) (b : BuildOf) (v : ℕ) → IsStrictlySortedBy build_cmp (keys_of es)
    → sum_by f (shown_ages (insert_entry build_cmp es b v)) + weight f b (lookup (is_at (build_cmp b)) es) ≡ sum_by f (shown_ages es) + f (age b v)
unfolding IsStrictlySortedBy
sums-insert f [] b v up = omega arith
sums-insert f (e ∷ es) b v up =
    elim (build_cmp b e.0)
    as (λ o. build_cmp b e.0 ≡ o
    → sum_by f (shown_ages (match_ordering o ((b, v) ∷ e ∷ es) ((e.0, v) ∷ es) (e ∷ insert_entry build_cmp es b v))) + weight f b (cond (is_eq o) (Some e.1) (lookup (is_at (build_cmp b)) es))
    ≡ sum_by f (shown_ages (e ∷ es)) + f (age b v)) [
      | Less ↦ λ is.
          let none : lookup (is_at (build_cmp b)) es ≡ None = lookup-none (is_at (build_cmp b)) es (none_below_head build_cmp_total b e es up is).1 in
          omega (arith, sum_by-cons f (age b v) (shown_ages (e ∷ es)), ap (weight f b) none)
      | Equal ↦ λ is.
          let same = build_same b e.0 (ap is_eq is) in
          omega (arith, sum_by-cons f (age e.0 v) (shown_ages es), sum_by-cons f (shown_age e) (shown_ages es), ap (λ c. f (age c v)) same, ap (λ c. f (age c e.1)) same)
      | Greater ↦ λ is.
          omega (arith, sum_by-cons f (shown_age e) (shown_ages (insert_entry build_cmp es b v)), sum_by-cons f (shown_age e) (shown_ages es), sums-insert f es b v up.1)
    ] refl

-- a file was added to a map
pub added : (accepted : ℕ) (b : BuildOf) (newest : ℕ) (es new : List (BuildOf × ℕ)) → IsStrictlySortedBy build_cmp (keys_of es)
    → newest ≡ latest (lookup (is_at (build_cmp b)) es) accepted → new ≡ insert_entry build_cmp es b newest
    → ((q : BuildOf) → lookup (is_at (build_cmp q)) new ≡ cond (is_same_build b q) (Some newest) (lookup (is_at (build_cmp q)) es))
    → HaveSameBuilds (shown_ages new) (aged accepted b (shown_ages es))
added accepted b newest es new up newest_is new_is found =
    let now_is : newest ≡ latest (age_of b (shown_ages es)) accepted = newest_is ∙ ap (λ o. latest o accepted) (lookup-shown b es) in
    record {
      sums = λ f.
          let a = sums-insert f es b newest up in
          let c = sums-aged f accepted b (shown_ages es) in
          omega (arith, a, c, ap (λ r. sum_by f (shown_ages r)) new_is, ap (weight f b) (lookup-shown b es), ap (λ m. f (age b m)) now_is);
      ages = λ q.
          sym (lookup-shown q new) ∙ found q
          ∙ ap (λ m. cond (is_same_build b q) (Some m) (lookup (is_at (build_cmp q)) es)) now_is
          ∙ ap (λ o. cond (is_same_build b q) (Some (latest (age_of b (shown_ages es)) accepted)) o) (lookup-shown q es)
          ∙ sym (ages-aged q accepted b (shown_ages es));
    }

pub same_trans : (xs ys zs : List Aged) → HaveSameBuilds xs ys → HaveSameBuilds ys zs → HaveSameBuilds xs zs
same_trans xs ys zs g h = record { sums = λ f. g.sums f ∙ h.sums f; ages = λ b. g.ages b ∙ h.ages b }

-- the same builds stay the same with one more file
pub aged_same : (accepted : ℕ) (b : BuildOf) (xs ys : List Aged) → HaveSameBuilds xs ys → HaveSameBuilds (aged accepted b xs) (aged accepted b ys)
aged_same accepted b xs ys h = record {
  sums = λ f.
      omega (arith, sums-aged f accepted b xs, sums-aged f accepted b ys, h.sums f, ap (weight f b) (h.ages b), ap (λ o. f (age b (latest o accepted))) (h.ages b));
  ages = λ q.
      ages-aged q accepted b xs
      ∙ (λ i. cond (is_same_build b q) (Some (latest (h.ages b i) accepted)) (h.ages q i))
      ∙ sym (ages-aged q accepted b ys);
}

-- ---- what is due
any_counted : (p : BuildOf → Bool) (t : Aged → Bool) (builds : List Aged) → list_any p (map (λ (a : Aged). a.build) (filter t builds)) ≡ nat_lt 0 (count_by (λ (a : Aged). t a && p a.build) builds)
any_counted p t [] = refl
any_counted p t (a ∷ builds) =
    ap (λ bs. list_any p (map (λ (x : Aged). x.build) bs)) refl
    ∙ elim (t a)
    as (λ b. list_any p (map (λ (x : Aged). x.build) (cond b (a ∷ filter t builds) (filter t builds))) ≡ nat_lt 0 (cond (b && p a.build) 1 0 + count_by (λ (x : Aged). t x && p x.build) builds)) [
      | true ↦ any_more (p a.build) (list_any p (map (λ (x : Aged). x.build) (filter t builds))) (count_by (λ (x : Aged). t x && p x.build) builds) (any_counted p t builds)
      | false ↦ any_counted p t builds ∙ ap (nat_lt 0) (let e : count_by (λ (x : Aged). t x && p x.build) builds ≡ 0 + count_by (λ (x : Aged). t x && p x.build) builds = omega arith in e)
    ]
    ∙ ap (nat_lt 0) (sym (sum_by-cons (λ (x : Aged). cond (t x && p x.build) 1 0) a builds))
  where
    any_more : (b r : Bool) (n : ℕ) → r ≡ nat_lt 0 n → (b || r) ≡ nat_lt 0 (cond b 1 0 + n)
    any_more true r n h = sym (lt-ltb 0 (1 + n) (omega arith))
    any_more false r n h = h ∙ ap (nat_lt 0) (let e : n ≡ 0 + n = omega arith in e)

abbrev is_due_among : List Aged → ℕ → ℕ → ℕ → Aged → Bool
is_due_among builds count days now a = nat_le count (count_by (λ (other : Aged). is_lt (build_cmp a.build other.build)) builds) && nat_lt (a.accepted + days * 86_400) now

pub due_same : (b : BuildOf) (xs ys : List Aged) (count days now : ℕ) → HaveSameBuilds xs ys
    → list_any (is_same_build b) (due xs count days now) ≡ list_any (is_same_build b) (due ys count days now)
due_same b xs ys count days now h =
    let agree : (a : Aged) → is_due_among xs count days now a ≡ is_due_among ys count days now a =
    λ a. ap (λ n. nat_le count n && nat_lt (a.accepted + days * 86_400) now) (h.sums (λ (other : Aged). cond (is_lt (build_cmp a.build other.build)) 1 0)) in
    ap (λ bs. list_any (is_same_build b) (map (λ (a : Aged). a.build) bs)) (filter_agree (is_due_among xs count days now) (is_due_among ys count days now) agree xs)
    ∙ any_counted (is_same_build b) (is_due_among ys count days now) xs
    ∙ ap (nat_lt 0) (h.sums (λ (a : Aged). cond (is_due_among ys count days now a && is_same_build b a.build) 1 0))
    ∙ sym (any_counted (is_same_build b) (is_due_among ys count days now) ys)

-- ---- a search among builds in order
tied_same : (b y : BuildOf) → build_cmp y b ≡ Equal → is_same_build b y ≡ true
tied_same b y h = ap is_eq (tied_back build_cmp_total y b h)

less_other : (b y : BuildOf) → build_cmp y b ≡ Less → is_same_build b y ≡ false
less_other b y h = ap is_eq (build_cmp_total.antisymm b y ∙ ap ordering_reverse h)

greater_other : (b y : BuildOf) → build_cmp y b ≡ Greater → is_same_build b y ≡ false
greater_other b y h = ap is_eq (build_cmp_total.antisymm b y ∙ ap ordering_reverse h)

pub searched : (b : BuildOf) (xs : List BuildOf) (r : Result ℕ ℕ) → IsSorted build_cmp xs → IsSearchInRange r (length xs) → IsBinarySearchResult (λ y. build_cmp y b) xs r
    → is_ok r ≡ list_any (is_same_build b) xs
searched b xs (Ok i) up within h = sym (list_any_at (is_same_build b) xs i b within (tied_same b (get_or xs i b) (h b)))
searched b xs (Err i) up within h =
    let parted = h (searchable_from_sorted build_cmp_total (λ y. y) xs b up) in
    sym (list_any_none (is_same_build b) xs (λ k d short.
    ⊎_elim (λ low. less_other b (get_or xs k d) (parted.0 k d (omega arith) low)) (λ high. greater_other b (get_or xs k d) (parted.1 k d high short)) (cases_lt k i)))
