-- That blank and merged documents have the form of a document.
use Rattle.std.proofs.Common.{◌++◌, ◌∷◌, ◌≡◌, ℕ, Bool, true, false, ◌&&◌, not, List, [], refl, sym, ap, ◌∙◌, Option, Some, None}
use Rattle.std.specs.Prelude.{if◌then◌else◌, codes}
use Rattle.std.specs.FinMap.Entries.{below_all, is_sorted}
use Rattle.std.specs.List.{filter, list_all}
use Rattle.std.specs.BTreeSet.{insert_key}
use Rattle.std.specs.Cmp.{tied_itself}
use Rattle.mvn_version.specs.Laws.{list_cmp_total}
use Rattle.mvn_metadata.proofs.MergeLemmas.{list_all-insert_key, is_rising-insert_key, list_all-with_entry, is_sorted-with_entry}
use Rattle.mvn_metadata.specs.Merge.{with_entry}
use Rattle.std.specs.Ordering.{is_lt, ordering_reverse}
use Rattle.std.specs.declared.cmp.Ordering.{Ordering}
use Rattle.std.specs.declared.cmp.Ordering.TheVariants.{Less, Equal, Greater}
use Rattle.mvn_coords.specs.Civil.{CivilTime, is_civil}
use Rattle.mvn_coords.specs.FileName.{BuildOf}
use Rattle.mvn_version.specs.Order.{list_cmp}
use Rattle.mvn_metadata.specs.declared.listing.Listing.{Listing}
use Rattle.mvn_metadata.specs.declared.listing.Listing.TheVariants.{Artifact, Snapshot}
use Rattle.mvn_metadata.specs.Document.{Document, dotted, greatest, is_of, joined, latest_time, newest_build, nothing, of_kind, settled, with_build, with_update, with_version}
use Rattle.mvn_coords.specs.Segment.{is_artifact, is_version_directory}
use Rattle.mvn_metadata.specs.Form.{is_base_version, is_build, is_document, is_classifier, is_extension, is_entry, is_fit, is_group, is_listing, is_reached, is_rising}
use Rattle.mvn_metadata.specs.Merge.{Entry, with_versions, with_entries}
use Rattle.mvn_metadata.specs.Order.{build_cmp, build_cmp_total, pair_cmp, time_cmp}
use Rattle.mvn_metadata.proofs.Bools.{both, first, second, list_all_filter, list_all_weaker}
use Rattle.mvn_metadata.proofs.Directories.{fits_directory}
use Rattle.mvn_coords.specs.Layout.{Directory}
use Rattle.mvn_coords.specs.Path.{IsDirectory}
use Rattle.mvn_metadata.specs.declared.pair.Pair.{Pair}
use Rattle.mvn_metadata.proofs.MergeLemmas.{is_rising-with_versions, list_all-with_versions, is_sorted-with_entries, list_all-with_entries}

-- the parts of the form of what an artifact's document lists
pub record ListsVersions (vs : List (List ℕ)) (t : Option CivilTime) : Type 0 where
  pub each : list_all is_version_directory vs ≡ true
  pub rising : is_rising list_cmp vs ≡ true
  pub updated : is_fit is_civil t ≡ true

pub versions_parts : (vs : List (List ℕ)) (t : Option CivilTime) → is_listing (Artifact vs t) ≡ true → ListsVersions vs t
versions_parts vs t h =
    let front = first (list_all is_version_directory vs && is_rising list_cmp vs) (is_fit is_civil t) h in
    record {
      each = first (list_all is_version_directory vs) (is_rising list_cmp vs) front;
      rising = second (list_all is_version_directory vs) (is_rising list_cmp vs) front;
      updated = second (list_all is_version_directory vs && is_rising list_cmp vs) (is_fit is_civil t) h;
    }

pub versions_whole : (vs : List (List ℕ)) (t : Option CivilTime) → ListsVersions vs t → is_listing (Artifact vs t) ≡ true
versions_whole vs t p =
    both (list_all is_version_directory vs && is_rising list_cmp vs) (is_fit is_civil t)
    (both (list_all is_version_directory vs) (is_rising list_cmp vs) p.each p.rising) p.updated

-- and of a snapshot directory's
pub record ListsBuilds (b : List ℕ) (n : Option BuildOf) (es : List Entry) : Type 0 where
  pub base : is_base_version b ≡ true
  pub newest : is_fit is_build n ≡ true
  pub each : list_all is_entry es ≡ true
  pub sorted : is_sorted pair_cmp es ≡ true
  pub reached : list_all (λ e. is_reached n e.1.build) es ≡ true

pub builds_parts : (b : List ℕ) (n : Option BuildOf) (es : List Entry) → is_listing (Snapshot b n es) ≡ true → ListsBuilds b n es
builds_parts b n es h =
    let B = is_base_version b in
    let N = is_fit is_build n in
    let E = list_all is_entry es in
    let S = is_sorted pair_cmp es in
    let R = list_all (λ (e : Entry). is_reached n e.1.build) es in
    let four = first (B && N && E && S) R h in
    let three = first (B && N && E) S four in
    let two = first (B && N) E three in
    record {
      base = first B N two;
      newest = second B N two;
      each = second (B && N) E three;
      sorted = second (B && N && E) S four;
      reached = second (B && N && E && S) R h;
    }

pub builds_whole : (b : List ℕ) (n : Option BuildOf) (es : List Entry) → ListsBuilds b n es → is_listing (Snapshot b n es) ≡ true
builds_whole b n es p =
    let B = is_base_version b in
    let N = is_fit is_build n in
    let E = list_all is_entry es in
    let S = is_sorted pair_cmp es in
    let R = list_all (λ (e : Entry). is_reached n e.1.build) es in
    both (B && N && E && S) R (both (B && N && E) S (both (B && N) E (both B N p.base p.newest) p.each) p.sorted) p.reached

pub is_listing-nothing : (l : Listing) → is_listing l ≡ true → is_listing (nothing l) ≡ true
is_listing-nothing (Artifact vs t) h = refl
is_listing-nothing (Snapshot b n es) h =
    builds_whole b None [] (record { base = (builds_parts b n es h).base; newest = refl; each = refl; sorted = refl; reached = refl })

-- the greater of two fits where both do
is_fit-greatest : {A : Type 0} (cmp : A → A → Ordering) (p : A → Bool) (a b : Option A) → is_fit p a ≡ true → is_fit p b ≡ true → is_fit p (greatest cmp a b) ≡ true
is_fit-greatest cmp p None b g h = h
is_fit-greatest cmp p (Some a) None g h = g
is_fit-greatest cmp p (Some a) (Some b) g h =
    elim (is_lt (cmp a b)) as (λ t. p (if t then b else a) ≡ true) [ true ↦ h | false ↦ g ]

-- what is below the less is below the greater
past : (r s t : Ordering) → (r ≡ Less → s ≡ Less → t ≡ Less) → not (is_lt t) ≡ true → is_lt s ≡ true → not (is_lt r) ≡ true
past Less Less t f g h = absurd (let e = f refl refl in cc)
past Less Equal t f g h = absurd cc
past Less Greater t f g h = absurd cc
past Equal s t f g h = refl
past Greater s t f g h = refl

-- the newest of two is above what either is above
is_reached-first : (n m : Option BuildOf) (b : BuildOf) → is_reached n b ≡ true → is_reached (newest_build n m) b ≡ true
is_reached-first None m b h = absurd cc
is_reached-first (Some n) None b h = h
is_reached-first (Some n) (Some m) b h =
    elim (is_lt (build_cmp n m)) as (λ t. is_lt (build_cmp n m) ≡ t → not (is_lt (build_cmp (if t then m else n) b)) ≡ true) [
      | true ↦ λ below. past (build_cmp m b) (build_cmp n m) (build_cmp n b)
          (λ p q. build_cmp_total.trans n m b q p) h below
      | false ↦ λ _. h
    ] refl

-- what is not above a build that is not above another is not above that one
over : (n m b : BuildOf) (r s : Ordering) → build_cmp n b ≡ r → build_cmp m b ≡ s → is_lt (build_cmp n m) ≡ false → not (is_lt s) ≡ true → not (is_lt r) ≡ true
over n m b Less Less p q f h = absurd cc
over n m b Less Equal p q f h =
    let after : build_cmp m n ≡ Greater = build_cmp_total.congr m b n q ∙ build_cmp_total.antisymm b n ∙ ap ordering_reverse p in
    absurd (let e : true ≡ false = sym (ap is_lt (build_cmp_total.antisymm n m ∙ ap ordering_reverse after)) ∙ f in cc)
over n m b Less Greater p q f h =
    let before : build_cmp b m ≡ Less = build_cmp_total.antisymm b m ∙ ap ordering_reverse q in
    absurd (let e : true ≡ false = sym (ap is_lt (build_cmp_total.trans n b m p before)) ∙ f in cc)
over n m b Equal s p q f h = refl
over n m b Greater s p q f h = refl

is_reached-second : (n m : Option BuildOf) (b : BuildOf) → is_reached m b ≡ true → is_reached (newest_build n m) b ≡ true
is_reached-second None m b h = h
is_reached-second (Some n) None b h = absurd cc
is_reached-second (Some n) (Some m) b h =
    elim (is_lt (build_cmp n m)) as (λ t. is_lt (build_cmp n m) ≡ t → not (is_lt (build_cmp (if t then m else n) b)) ≡ true) [
      | true ↦ λ _. h
      | false ↦ λ above. over n m b (build_cmp n b) (build_cmp m b) refl refl above h
    ] refl

pub is_listing-joined : (l m : Listing) → is_listing l ≡ true → is_listing m ≡ true → is_listing (joined l m) ≡ true
is_listing-joined (Artifact vs t) (Artifact ws u) g h =
    let p = versions_parts vs t g in
    let q = versions_parts ws u h in
    versions_whole (with_versions vs ws) (latest_time t u) (record {
      each = list_all-with_versions is_version_directory vs ws p.each q.each;
      rising = is_rising-with_versions vs ws p.rising;
      updated = is_fit-greatest time_cmp is_civil t u p.updated q.updated;
    })
is_listing-joined (Artifact vs t) (Snapshot b n es) g h = g
is_listing-joined (Snapshot b n es) (Artifact vs t) g h = g
is_listing-joined (Snapshot b n es) (Snapshot c m fs) g h =
    let p = builds_parts b n es g in
    let q = builds_parts c m fs h in
    let newest = newest_build n m in
    builds_whole b newest (with_entries es fs) (record {
      base = p.base;
      newest = is_fit-greatest build_cmp is_build n m p.newest q.newest;
      each = list_all-with_entries is_entry es fs p.each q.each;
      sorted = is_sorted-with_entries es fs p.sorted;
      reached = list_all-with_entries (λ e. is_reached newest e.1.build) es fs
          (list_all_weaker (λ (e : Entry). is_reached n e.1.build) (λ e. is_reached newest e.1.build) es (λ e r. is_reached-first n m e.1.build r) p.reached)
          (list_all_weaker (λ (e : Entry). is_reached m e.1.build) (λ e. is_reached newest e.1.build) fs (λ e r. is_reached-second n m e.1.build r) q.reached);
    })

-- a document keeps its form where what it lists does
pub is_document-listing : (d : Document) (l : Listing) → is_listing l ≡ true → is_document d ≡ true → is_document (record d { listing = l }) ≡ true
is_document-listing d l g h =
    let front = is_fit is_group d.group && is_fit is_artifact d.artifact in
    both front (is_listing l) (first front (is_listing d.listing) h) g

pub listing_of : (d : Document) → is_document d ≡ true → is_listing d.listing ≡ true
listing_of d h = second (is_fit is_group d.group && is_fit is_artifact d.artifact) (is_listing d.listing) h

-- ---- a document of a directory
below_filter : (k : Pair) (t : Entry → Bool) (es : List Entry) → below_all pair_cmp k es ≡ true → below_all pair_cmp k (filter t es) ≡ true
below_filter k t [] h = refl
below_filter k t (e ∷ es) h =
    let rest = below_filter k t es (second (is_lt (pair_cmp k e.0)) (below_all pair_cmp k es) h) in
    elim (t e) as (λ b. below_all pair_cmp k (if b then e ∷ filter t es else filter t es) ≡ true) [
      | true ↦ both (is_lt (pair_cmp k e.0)) (below_all pair_cmp k (filter t es)) (first (is_lt (pair_cmp k e.0)) (below_all pair_cmp k es) h) rest
      | false ↦ rest
    ]

is_sorted-filter : (t : Entry → Bool) (es : List Entry) → is_sorted pair_cmp es ≡ true → is_sorted pair_cmp (filter t es) ≡ true
is_sorted-filter t [] h = refl
is_sorted-filter t (e ∷ es) h =
    let rest = is_sorted-filter t es (second (below_all pair_cmp e.0 es) (is_sorted pair_cmp es) h) in
    elim (t e) as (λ b. is_sorted pair_cmp (if b then e ∷ filter t es else filter t es) ≡ true) [
      | true ↦ both (below_all pair_cmp e.0 (filter t es)) (is_sorted pair_cmp (filter t es))
          (below_filter e.0 t es (first (below_all pair_cmp e.0 es) (is_sorted pair_cmp es) h)) rest
      | false ↦ rest
    ]

is_listing-of_kind : (v : Option (List ℕ)) (l : Listing) → is_fit is_base_version v ≡ true → is_listing l ≡ true → is_listing (of_kind v l) ≡ true
is_listing-of_kind None (Artifact vs t) g h = h
is_listing-of_kind None (Snapshot b n es) g h = refl
is_listing-of_kind (Some v) (Artifact vs t) g h =
    builds_whole v None [] (record { base = g; newest = refl; each = refl; sorted = refl; reached = refl })
is_listing-of_kind (Some v) (Snapshot b n es) g h =
    let p = builds_parts b n es h in
    builds_whole v n (filter (is_of v) es) (record {
      base = g;
      newest = p.newest;
      each = list_all_filter is_entry (is_of v) es p.each;
      sorted = is_sorted-filter (is_of v) es p.sorted;
      reached = list_all_filter (λ e. is_reached n e.1.build) (is_of v) es p.reached;
    })

pub is_document-settled : (d : Document) (directory : Directory) → IsDirectory directory → is_listing d.listing ≡ true → is_document (settled d directory) ≡ true
is_document-settled d directory rule h =
    let f = fits_directory directory rule in
    both (is_fit is_group (dotted directory.group) && is_artifact directory.artifact) (is_listing (of_kind directory.version d.listing))
    (both (is_fit is_group (dotted directory.group)) (is_artifact directory.artifact) f.group f.artifact)
    (is_listing-of_kind directory.version d.listing f.version h)

-- ---- one more version, moment or build
pub is_listing-with_version : (l : Listing) (v : List ℕ) → is_version_directory v ≡ true → is_listing l ≡ true → is_listing (with_version l v) ≡ true
is_listing-with_version (Artifact vs t) v g h =
    let p = versions_parts vs t h in
    versions_whole (insert_key list_cmp vs v) t (record {
      each = list_all-insert_key list_cmp is_version_directory vs v g p.each;
      rising = is_rising-insert_key list_cmp_total vs v p.rising;
      updated = p.updated;
    })
is_listing-with_version (Snapshot b n es) v g h = h

pub is_listing-with_update : (l : Listing) (t : CivilTime) → is_civil t ≡ true → is_listing l ≡ true → is_listing (with_update l t) ≡ true
is_listing-with_update (Artifact vs u) t g h =
    let p = versions_parts vs u h in
    versions_whole vs (latest_time u (Some t)) (record {
      each = p.each;
      rising = p.rising;
      updated = is_fit-greatest time_cmp is_civil u (Some t) p.updated g;
    })
is_listing-with_update (Snapshot b n es) t g h = h

itself_reached : (b : BuildOf) → is_reached (Some b) b ≡ true
itself_reached b = ap (λ r. not (is_lt r)) (tied_itself build_cmp_total b)

pub is_listing-with_build : (l : Listing) (e : Entry) → is_entry e ≡ true → is_listing l ≡ true → is_listing (with_build l e) ≡ true
is_listing-with_build (Artifact vs t) e g h = h
is_listing-with_build (Snapshot b n es) e g h =
    let p = builds_parts b n es h in
    let newest = newest_build n (Some e.1.build) in
    let fit = second (is_classifier e.0.classifier && is_extension e.0.extension && is_base_version (e.1.base ++ codes "-SNAPSHOT")) (is_build e.1.build) g in
    builds_whole b newest (with_entry es e) (record {
      base = p.base;
      newest = is_fit-greatest build_cmp is_build n (Some e.1.build) p.newest fit;
      each = list_all-with_entry is_entry es e g p.each;
      sorted = is_sorted-with_entry es e p.sorted;
      reached = list_all-with_entry (λ f. is_reached newest f.1.build) es e
          (is_reached-second n (Some e.1.build) e.1.build (itself_reached e.1.build))
          (list_all_weaker (λ (f : Entry). is_reached n f.1.build) (λ f. is_reached newest f.1.build) es (λ f r. is_reached-first n (Some e.1.build) f.1.build r) p.reached);
    })

-- a document keeps its form where another listing of the form takes the place of its own
pub is_document-same : (d : Document) (l m : Listing) → l ≡ m → is_listing m ≡ true → is_document d ≡ true → is_document (record d { listing = l }) ≡ true
is_document-same d l m e g h = ap (λ k. is_document (record d { listing = k })) e ∙ is_document-listing d m g h
