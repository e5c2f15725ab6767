-- What uniting lists of versions and of entries keeps.
use Rattle.std.proofs.Common.{◌≡◌, ℕ, Bool, true, false, ◌&&◌, List, [], ◌∷◌, refl, sym, subst, ap, ◌∙◌, T}
use Rattle.std.specs.Prelude.{if◌then◌else◌}
use Rattle.std.specs.BTreeMap.{insert_entry, is_at}
use Rattle.std.specs.BTreeSet.{insert_key}
use Rattle.std.specs.Cmp.{IsTotalOrder}
use Rattle.std.specs.Cmp.Lexicographic.{slice_cmp}
use Rattle.std.specs.FinMap.{nat_cmp-IsAntisymmetric, slice_cmp-IsAntisymmetric}
use Rattle.std.specs.FinMap.Entries.{by_order, is_sorted, put, is_sorted-put}
use Rattle.std.specs.List.{list_all}
use Rattle.std.specs.Map.{lookup}
use Rattle.std.specs.Ordering.{is_lt, nat_cmp, match_ordering, ordering_reverse, ordering_then}
use Rattle.std.specs.declared.cmp.Ordering.{Ordering}
use Rattle.std.specs.declared.cmp.Ordering.TheVariants.{Less, Equal, Greater}
use Rattle.mvn_version.specs.Laws.{list_cmp_total}
use Rattle.mvn_version.specs.Order.{list_cmp}
use Rattle.mvn_metadata.specs.declared.pair.Pair.{Pair}
use Rattle.mvn_metadata.specs.declared.pair.SnapshotBuild.{SnapshotBuild}
use Rattle.mvn_metadata.specs.Form.{is_rising}
use Rattle.mvn_metadata.specs.Merge.{Entry, is_newer, with_versions, with_entry, with_entries}
use Rattle.mvn_metadata.specs.Order.{pair_cmp, pair_cmp_total}
use Rattle.mvn_metadata.proofs.Bools.{both, first, second, list_all_weaker}

less : (r : Ordering) → is_lt r ≡ true → r ≡ Less
less Less h = refl
less Equal h = absurd cc
less Greater h = absurd cc

-- ---- keys in order
pub list_all-insert_key : {K : Type 0} (cmp : K → K → Ordering) (p : K → Bool) (ks : List K) (k : K) → p k ≡ true → list_all p ks ≡ true → list_all p (insert_key cmp ks k) ≡ true
list_all-insert_key cmp p [] k a h = both (p k) true a refl
list_all-insert_key cmp p (x ∷ xs) k a h =
    elim (cmp k x) as (λ r. list_all p (match_ordering r (k ∷ x ∷ xs) (x ∷ xs) (x ∷ insert_key cmp xs k)) ≡ true) [
      | Less ↦ both (p k) (p x && list_all p xs) a h
      | Equal ↦ h
      | Greater ↦ both (p x) (list_all p (insert_key cmp xs k)) (first (p x) (list_all p xs) h) (list_all-insert_key cmp p xs k a (second (p x) (list_all p xs) h))
    ]

module _ {K : Type 0} {cmp : K → K → Ordering} (o : IsTotalOrder cmp) where
  below_less : (k x : K) (xs : List K) → cmp k x ≡ Less → list_all (λ q. is_lt (cmp x q)) xs ≡ true → list_all (λ q. is_lt (cmp k q)) xs ≡ true
  below_less k x xs p h =
      list_all_weaker (λ q. is_lt (cmp x q)) (λ q. is_lt (cmp k q)) xs (λ q l. ap is_lt (o.trans k x q p (less (cmp x q) l))) h

  pub is_rising-insert_key : (ks : List K) (k : K) → is_rising cmp ks ≡ true → is_rising cmp (insert_key cmp ks k) ≡ true
  is_rising-insert_key [] k h = refl
  is_rising-insert_key (x ∷ xs) k h =
      let below = first (list_all (λ q. is_lt (cmp x q)) xs) (is_rising cmp xs) h in
      let rest = second (list_all (λ q. is_lt (cmp x q)) xs) (is_rising cmp xs) h in
      elim (cmp k x) as (λ r. cmp k x ≡ r → is_rising cmp (match_ordering r (k ∷ x ∷ xs) (x ∷ xs) (x ∷ insert_key cmp xs k)) ≡ true) [
        | Less ↦ λ p. both (is_lt (cmp k x) && list_all (λ q. is_lt (cmp k q)) xs) (is_rising cmp (x ∷ xs))
            (both (is_lt (cmp k x)) (list_all (λ q. is_lt (cmp k q)) xs) (ap is_lt p) (below_less k x xs p below)) h
        | Equal ↦ λ p. h
        | Greater ↦ λ p. both (list_all (λ q. is_lt (cmp x q)) (insert_key cmp xs k)) (is_rising cmp (insert_key cmp xs k))
            (list_all-insert_key cmp (λ q. is_lt (cmp x q)) xs k (ap is_lt (o.antisymm x k ∙ ap ordering_reverse p)) below)
            (is_rising-insert_key xs k rest)
      ] refl

pub list_all-with_versions : (p : List ℕ → Bool) (vs ws : List (List ℕ)) → list_all p vs ≡ true → list_all p ws ≡ true → list_all p (with_versions vs ws) ≡ true
list_all-with_versions p vs [] g h = g
list_all-with_versions p vs (w ∷ ws) g h =
    list_all-with_versions p (insert_key list_cmp vs w) ws
    (list_all-insert_key list_cmp p vs w (first (p w) (list_all p ws) h) g) (second (p w) (list_all p ws) h)

pub is_rising-with_versions : (vs ws : List (List ℕ)) → is_rising list_cmp vs ≡ true → is_rising list_cmp (with_versions vs ws) ≡ true
is_rising-with_versions vs [] g = g
is_rising-with_versions vs (w ∷ ws) g =
    is_rising-with_versions (insert_key list_cmp vs w) ws (is_rising-insert_key list_cmp_total vs w g)

-- ---- pairs in order
tied_second : (r s : Ordering) → ordering_then r s ≡ Equal → (r ≡ Equal) × (s ≡ Equal)
tied_second Less s e = absurd cc
tied_second Equal s e = (refl, e)
tied_second Greater s e = absurd cc

pub pair_cmp_ties : (p q : Pair) → pair_cmp p q ≡ Equal → p ≡ q
pair_cmp_ties p q e =
    let ties = tied_second (slice_cmp nat_cmp p.classifier q.classifier) (slice_cmp nat_cmp p.extension q.extension) e in
    let classifiers = slice_cmp-IsAntisymmetric nat_cmp-IsAntisymmetric p.classifier q.classifier ties.0 in
    let extensions = slice_cmp-IsAntisymmetric nat_cmp-IsAntisymmetric p.extension q.extension ties.1 in
    λ i. record { classifier = classifiers i; extension = extensions i }

pub insert_entry_is_put : {K X : Type 0} (cmp : K → K → Ordering) (es : List (K × X)) (k : K) (v : X) → insert_entry cmp es k v ≡ put cmp k v es
insert_entry_is_put cmp [] k v = refl
insert_entry_is_put cmp (e ∷ es) k v =
    elim (cmp k e.0) as (λ r. match_ordering r ((k, v) ∷ e ∷ es) ((e.0, v) ∷ es) (e ∷ insert_entry cmp es k v) ≡ by_order r ((k, v) ∷ e ∷ es) ((e.0, v) ∷ es) (e ∷ put cmp k v es)) [
      | Less ↦ refl
      | Equal ↦ refl
      | Greater ↦ ap (λ fs. e ∷ fs) (insert_entry_is_put cmp es k v)
    ]

is_true : (b : Bool) → T b → b ≡ true
is_true true h = refl
is_true false h = absurd h

pub holds : (b : Bool) → b ≡ true → T b
holds b e = subst T (sym e) tt

pub is_sorted-insert_entry : (es : List Entry) (k : Pair) (v : SnapshotBuild) → is_sorted pair_cmp es ≡ true → is_sorted pair_cmp (insert_entry pair_cmp es k v) ≡ true
is_sorted-insert_entry es k v h =
    ap (is_sorted pair_cmp) (insert_entry_is_put pair_cmp es k v)
    ∙ is_true (is_sorted pair_cmp (put pair_cmp k v es)) (is_sorted-put pair_cmp pair_cmp_total k v es (holds (is_sorted pair_cmp es) h))

pub list_all-insert_entry : (p : Entry → Bool) (es : List Entry) (k : Pair) (v : SnapshotBuild) → p (k, v) ≡ true → list_all p es ≡ true → list_all p (insert_entry pair_cmp es k v) ≡ true
list_all-insert_entry p [] k v a h = both (p (k, v)) true a refl
list_all-insert_entry p (e ∷ es) k v a h =
    elim (pair_cmp k e.0) as (λ r. pair_cmp k e.0 ≡ r → list_all p (match_ordering r ((k, v) ∷ e ∷ es) ((e.0, v) ∷ es) (e ∷ insert_entry pair_cmp es k v)) ≡ true) [
      | Less ↦ λ _. both (p (k, v)) (p e && list_all p es) a h
      | Equal ↦ λ t. both (p (e.0, v)) (list_all p es) (subst (λ q. p (q, v) ≡ true) (pair_cmp_ties k e.0 t) a) (second (p e) (list_all p es) h)
      | Greater ↦ λ _. both (p e) (list_all p (insert_entry pair_cmp es k v)) (first (p e) (list_all p es) h) (list_all-insert_entry p es k v a (second (p e) (list_all p es) h))
    ] refl

pub is_sorted-with_entry : (es : List Entry) (e : Entry) → is_sorted pair_cmp es ≡ true → is_sorted pair_cmp (with_entry es e) ≡ true
is_sorted-with_entry es e h =
    elim (is_newer e.1 (lookup (is_at (pair_cmp e.0)) es)) as (λ b. is_sorted pair_cmp (if b then insert_entry pair_cmp es e.0 e.1 else es) ≡ true) [
      | true ↦ is_sorted-insert_entry es e.0 e.1 h
      | false ↦ h
    ]

pub list_all-with_entry : (p : Entry → Bool) (es : List Entry) (e : Entry) → p e ≡ true → list_all p es ≡ true → list_all p (with_entry es e) ≡ true
list_all-with_entry p es e a h =
    elim (is_newer e.1 (lookup (is_at (pair_cmp e.0)) es)) as (λ b. list_all p (if b then insert_entry pair_cmp es e.0 e.1 else es) ≡ true) [
      | true ↦ list_all-insert_entry p es e.0 e.1 a h
      | false ↦ h
    ]

pub is_sorted-with_entries : (es fs : List Entry) → is_sorted pair_cmp es ≡ true → is_sorted pair_cmp (with_entries es fs) ≡ true
is_sorted-with_entries es [] h = h
is_sorted-with_entries es (f ∷ fs) h = is_sorted-with_entries (with_entry es f) fs (is_sorted-with_entry es f h)

pub list_all-with_entries : (p : Entry → Bool) (es fs : List Entry) → list_all p es ≡ true → list_all p fs ≡ true → list_all p (with_entries es fs) ≡ true
list_all-with_entries p es [] g h = g
list_all-with_entries p es (f ∷ fs) g h =
    list_all-with_entries p (with_entry es f) fs (list_all-with_entry p es f (first (p f) (list_all p fs) h) g) (second (p f) (list_all p fs) h)
