-- That one more key goes out again, and that a document whose last version is undone has the form of a document.
use Rattle.std.proofs.Common.{◌≡◌, ℕ, Bool, true, false, not, ◌||◌, cond, List, [], ◌∷◌, refl, sym, ap, ◌∙◌, Option, Some, None, Result, Ok, Err, OnOk, OnErr}
use Rattle.std.specs.Prelude.{if◌then◌else◌}
use Rattle.std.specs.Bool.{OnFalse}
use Rattle.std.specs.BTreeMap.{is_at}
use Rattle.std.specs.BTreeSet.{insert_key}
use Rattle.std.specs.Set.{remove_key}
use Rattle.std.specs.List.{list_all, list_any}
use Rattle.std.specs.Cmp.{IsTotalOrder, tied_itself}
use Rattle.std.specs.Ordering.{is_eq, is_lt, match_ordering}
use Rattle.std.specs.declared.cmp.Ordering.{Ordering}
use Rattle.std.specs.declared.cmp.Ordering.TheVariants.{Less, Equal, Greater}
use Rattle.mvn_coords.specs.Civil.{CivilTime, is_civil}
use Rattle.mvn_coords.specs.Segment.{is_version_directory}
use Rattle.mvn_version.specs.Laws.{list_cmp_total}
use Rattle.mvn_version.specs.Order.{list_cmp}
use Rattle.mvn_metadata.specs.declared.listing.Listing.{Listing}
use Rattle.mvn_metadata.specs.declared.listing.Listing.TheVariants.{Artifact, Snapshot}
use Rattle.mvn_metadata.specs.declared.undo.Undo.{Undo}
use Rattle.mvn_metadata.specs.Document.{with_update, with_version}
use Rattle.mvn_metadata.specs.Form.{is_fit, is_listing, is_rising}
use Rattle.mvn_metadata.specs.Undo.{undone, without_version}
use Rattle.mvn_metadata.proofs.Bools.{both, first, second}
use Rattle.mvn_metadata.proofs.FormLemmas.{is_listing-with_update, is_listing-with_version, versions_parts, versions_whole}

-- a key that was not there goes out again
pub removed-inserted : {K : Type 0} (cmp : K → K → Ordering) → IsTotalOrder cmp → (ks : List K) (k : K)
    → list_any (is_at (cmp k)) ks ≡ false → remove_key (is_at (cmp k)) (insert_key cmp ks k) ≡ ks
removed-inserted cmp total [] k h = ap (λ o. cond (is_eq o) [] (k ∷ [])) (tied_itself total k)
removed-inserted cmp total (x ∷ xs) k h = by (removed-inserted cmp total xs k) (cmp k x) refl
  where
    by : (list_any (is_at (cmp k)) xs ≡ false → remove_key (is_at (cmp k)) (insert_key cmp xs k) ≡ xs) → (o : Ordering) → cmp k x ≡ o
        → remove_key (is_at (cmp k)) (match_ordering o (k ∷ x ∷ xs) (x ∷ xs) (x ∷ insert_key cmp xs k)) ≡ x ∷ xs
    by turn Less e = ap (λ o. cond (is_eq o) (x ∷ xs) (k ∷ remove_key (is_at (cmp k)) (x ∷ xs))) (tied_itself total k)
    by turn Equal e = absurd (let there : true ≡ false = ap (λ o. is_eq o || list_any (is_at (cmp k)) xs) (sym e) ∙ h in cc)
    by turn Greater e =
        let rest : list_any (is_at (cmp k)) xs ≡ false = ap (λ o. is_eq o || list_any (is_at (cmp k)) xs) (sym e) ∙ h in
        ap (λ o. cond (is_eq o) (insert_key cmp xs k) (x ∷ remove_key (is_at (cmp k)) (insert_key cmp xs k))) e
        ∙ ap (λ l. x ∷ l) (turn rest)

-- a version that was added is the one to take out, where it is new
pub old-added : (is_new : Bool) (old new : List (List ℕ)) (v : List ℕ) → is_new ≡ not (list_any (is_at (list_cmp v)) old)
    → new ≡ insert_key list_cmp old v → OnFalse is_new (new ≡ old) → old ≡ (if is_new then remove_key (is_at (list_cmp v)) new else new)
old-added true old new v a k u =
    sym (ap (remove_key (is_at (list_cmp v))) k ∙ removed-inserted list_cmp list_cmp_total old v (absent (list_any (is_at (list_cmp v)) old) a))
  where
    absent : (b : Bool) → true ≡ not b → b ≡ false
    absent true h = absurd (let e : true ≡ false = h in cc)
    absent false h = refl
old-added false old new v a k u = sym u

list_all-removed : {K : Type 0} (p test : K → Bool) (ks : List K) → list_all p ks ≡ true → list_all p (remove_key test ks) ≡ true
list_all-removed p test [] h = refl
list_all-removed p test (x ∷ xs) h =
    let rest = second (p x) (list_all p xs) h in
    elim (test x) as (λ b. list_all p (cond b xs (x ∷ remove_key test xs)) ≡ true) [
      | true ↦ rest
      | false ↦ both (p x) (list_all p (remove_key test xs)) (first (p x) (list_all p xs) h) (list_all-removed p test xs rest)
    ]

is_rising-removed : {K : Type 0} (cmp : K → K → Ordering) (test : K → Bool) (ks : List K) → is_rising cmp ks ≡ true → is_rising cmp (remove_key test ks) ≡ true
is_rising-removed cmp test [] h = refl
is_rising-removed cmp test (x ∷ xs) h =
    let below = first (list_all (λ q. is_lt (cmp x q)) xs) (is_rising cmp xs) h in
    let rest = second (list_all (λ q. is_lt (cmp x q)) xs) (is_rising cmp xs) h in
    elim (test x) as (λ b. is_rising cmp (cond b xs (x ∷ remove_key test xs)) ≡ true) [
      | true ↦ rest
      | false ↦ both (list_all (λ q. is_lt (cmp x q)) (remove_key test xs)) (is_rising cmp (remove_key test xs))
          (list_all-removed (λ q. is_lt (cmp x q)) test xs below) (is_rising-removed cmp test xs rest)
    ]

each-without : (vs : List (List ℕ)) (v : Option (List ℕ)) → list_all is_version_directory vs ≡ true → list_all is_version_directory (without_version vs v) ≡ true
each-without vs None h = h
each-without vs (Some v) h = list_all-removed is_version_directory (is_at (list_cmp v)) vs h

rising-without : (vs : List (List ℕ)) (v : Option (List ℕ)) → is_rising list_cmp vs ≡ true → is_rising list_cmp (without_version vs v) ≡ true
rising-without vs None h = h
rising-without vs (Some v) h = is_rising-removed list_cmp (is_at (list_cmp v)) vs h

pub is_listing-undone : (l : Listing) (u : Undo) → is_fit is_civil u.updated ≡ true → is_listing l ≡ true → is_listing (undone l u) ≡ true
is_listing-undone (Artifact vs t) u g h =
    let p = versions_parts vs t h in
    versions_whole (without_version vs u.version) u.updated (record {
      each = each-without vs u.version p.each;
      rising = rising-without vs u.version p.rising;
      updated = g;
    })
is_listing-undone (Snapshot b n es) u g h = h

-- what is listed keeps its form where a version is added, and where that fails
pub is_listing-added : {E : Type 0} (r : Result Undo E) (old new : Listing) (v : List ℕ) (t : CivilTime) → is_version_directory v ≡ true → is_civil t ≡ true → is_listing old ≡ true
    → OnOk r (new ≡ with_update (with_version old v) t) → OnErr r (new ≡ old) → is_listing new ≡ true
is_listing-added (Ok undo) old new v t g h f ok err =
    ap is_listing ok ∙ is_listing-with_update (with_version old v) t h (is_listing-with_version old v g f)
is_listing-added (Err e) old new v t g h f ok err = ap is_listing err ∙ f
