-- What is picked from a document's elements has the form of a document's parts.
use Rattle.std.proofs.Common.{◌≡◌, ℕ, Bool, true, false, ◌&&◌, not, List, [], ◌∷◌, ◌++◌, length, take, drop, refl, subst, ap, ◌∙◌, Option, Some, None}
use Rattle.std.specs.Prelude.{if◌then◌else◌, codes, nat_eq, nat_le, nat_lt, option_and_then, unwrap_or}
use Rattle.std.specs.Char.{is_ascii_digit}
use Rattle.std.specs.List.{list_all, starts_with}
use Rattle.std.proofs.lemmas.Bool.{ltb-true, leb-true}
use Rattle.mvn_coords.specs.Civil.{CivilTime, decimal, fields_of, if_civil, is_civil, is_time_form, time_of}
use Rattle.mvn_coords.specs.FileName.{BuildOf, is_build_number, number_of}
use Rattle.mvn_coords.proofs.Digits.{decimal_below}
use Rattle.mvn_coords.proofs.Names.{number_range}
use Rattle.mvn_metadata.specs.declared.listing.Listing.TheVariants.{Artifact, Snapshot}
use Rattle.mvn_metadata.specs.declared.pair.SnapshotBuild.{SnapshotBuild}
use Rattle.mvn_doc.specs.declared.place.Place.TheVariants.{ArtifactId, BaseVersion, BuildNumber, Classifier, Extension, GroupId, LastUpdated, Timestamp, Value}
use Rattle.mvn_coords.specs.Segment.{is_artifact}
use Rattle.mvn_metadata.specs.Form.{is_base_version, is_build, is_classifier, is_document, is_entry, is_extension, is_fit, is_group, is_listing}
use Rattle.mvn_metadata.specs.Merge.{Entry}
use Rattle.mvn_doc.specs.Picked.{artifact_in, base_in, build_by, build_in, build_value, entry_by, entry_in, first_at, fitting, group_in, snapshot_build_after, snapshot_build_by, snapshot_build_of, last_cut, moment_in, moment_of}
use Rattle.mvn_doc.specs.Place.{Placed}
use Rattle.mvn_metadata.proofs.Bools.{both, first, second}
use Rattle.mvn_metadata.proofs.FormLemmas.{builds_whole, versions_whole}

-- what passes the test passes it
pub fitting_fits : (test : List ℕ → Bool) (bs : List ℕ) → is_fit test (fitting test bs) ≡ true
fitting_fits test bs =
    elim (test bs) as (λ b. test bs ≡ b → is_fit test (if b then Some bs else None) ≡ true) [
      | true ↦ λ e. e
      | false ↦ λ _. refl
    ] refl

pub fits_after : {A B : Type 0} (test : B → Bool) (f : A → Option B) → ((a : A) → is_fit test (f a) ≡ true) → (o : Option A) → is_fit test (option_and_then f o) ≡ true
fits_after test f h None = refl
fits_after test f h (Some a) = h a

pub group_fits : (ps : List Placed) → is_fit is_group (group_in ps) ≡ true
group_fits ps = fits_after is_group (fitting is_group) (fitting_fits is_group) (first_at GroupId ps)

pub artifact_fits : (ps : List Placed) → is_fit is_artifact (artifact_in ps) ≡ true
artifact_fits ps = fits_after is_artifact (fitting is_artifact) (fitting_fits is_artifact) (first_at ArtifactId ps)

pub base_fits : (ps : List Placed) → is_fit is_base_version (base_in ps) ≡ true
base_fits ps = fits_after is_base_version (fitting is_base_version) (fitting_fits is_base_version) (first_at BaseVersion ps)

-- ---- timestamps and numbers
civil_fits : (t : CivilTime) → is_fit is_civil (if_civil t) ≡ true
civil_fits t =
    elim (is_civil t) as (λ b. is_civil t ≡ b → is_fit is_civil (if b then Some t else None) ≡ true) [
      | true ↦ λ e. e
      | false ↦ λ _. refl
    ] refl

pub time_fits : (text : List ℕ) → is_fit is_civil (time_of text) ≡ true
time_fits text =
    elim (is_time_form text) as (λ b. is_fit is_civil (if b then if_civil (fields_of (take 8 text) (drop 9 text)) else None) ≡ true) [
      | true ↦ civil_fits (fields_of (take 8 text) (drop 9 text))
      | false ↦ refl
    ]

pub moment_fits : (ps : List Placed) → is_fit is_civil (moment_in ps) ≡ true
moment_fits ps = fits_after is_civil moment_of (λ text. time_fits (take 8 text ++ 46 ∷ drop 8 text)) (first_at LastUpdated ps)

no_zero : (b : Bool) → not b ≡ true → b ≡ false
no_zero true h = absurd cc
no_zero false h = refl

number_in_range : (run : List ℕ) → (nat_lt 0 (length run) && nat_le (length run) 9 && list_all is_ascii_digit run && not (starts_with nat_eq run (codes "0"))) ≡ true → is_build_number (decimal run) ≡ true
number_in_range run h =
    let filled = nat_lt 0 (length run) in
    let short = nat_le (length run) 9 in
    let digits = list_all is_ascii_digit run in
    let zeros = starts_with nat_eq run (codes "0") in
    let three = first (filled && short && digits) (not zeros) h in
    let two = first (filled && short) digits three in
    number_range run (decimal run) (second (filled && short) digits three)
    (ltb-true 0 (length run) (first filled short two)) (leb-true (length run) 9 (second filled short two))
    (no_zero zeros (second (filled && short && digits) (not zeros) h)) refl
    (decimal_below run (second (filled && short) digits three))

pub number_fits : (run : List ℕ) → is_fit is_build_number (number_of run) ≡ true
number_fits run =
    let T = nat_lt 0 (length run) && nat_le (length run) 9 && list_all is_ascii_digit run && not (starts_with nat_eq run (codes "0")) in
    elim T as (λ b. T ≡ b → is_fit is_build_number (if b then Some (decimal run) else None) ≡ true) [
      | true ↦ λ e. number_in_range run e
      | false ↦ λ _. refl
    ] refl

-- ---- builds
pub build_fits : (t : Option CivilTime) (n : Option ℕ) → is_fit is_civil t ≡ true → is_fit is_build_number n ≡ true → is_fit is_build (build_by t n) ≡ true
build_fits (Some t) (Some n) g h = both (is_civil t) (is_build_number n) g h
build_fits (Some t) None g h = refl
build_fits None n g h = refl

pub build_in_fits : (ps : List Placed) → is_fit is_build (build_in ps) ≡ true
build_in_fits ps =
    build_fits (option_and_then time_of (first_at Timestamp ps)) (option_and_then number_of (first_at BuildNumber ps))
    (fits_after is_civil time_of time_fits (first_at Timestamp ps))
    (fits_after is_build_number number_of number_fits (first_at BuildNumber ps))

-- ---- entries
abbrev pub is_snapshot_build : SnapshotBuild → Bool
is_snapshot_build h = is_base_version (h.base ++ codes "-SNAPSHOT") && is_build h.build

snapshot_build_of_fits : (base : List ℕ) (b : Option BuildOf) → is_fit is_build b ≡ true → is_fit is_snapshot_build (snapshot_build_of base b) ≡ true
snapshot_build_of_fits base None h = refl
snapshot_build_of_fits base (Some b) h =
    elim (is_base_version (base ++ codes "-SNAPSHOT")) as
    (λ t. is_base_version (base ++ codes "-SNAPSHOT") ≡ t → is_fit is_snapshot_build (if t then Some (record { base = base; build = b }) else None) ≡ true) [
      | true ↦ λ e. both (is_base_version (base ++ codes "-SNAPSHOT")) (is_build b) e h
      | false ↦ λ _. refl
    ] refl

value_fits : (text : List ℕ) → is_fit is_snapshot_build (build_value text) ≡ true
value_fits text =
    fits_after is_snapshot_build snapshot_build_after (λ cut. fits_after is_snapshot_build (snapshot_build_by (number_of cut.1))
    (λ inner. snapshot_build_of_fits inner.0 (build_by (time_of inner.1) (number_of cut.1))
    (build_fits (time_of inner.1) (number_of cut.1) (time_fits inner.1) (number_fits cut.1)))
    (last_cut cut.0)) (last_cut text)

entry_fits : (c e : Option (List ℕ)) (h : Option SnapshotBuild) → is_fit is_classifier c ≡ true → is_fit is_extension e ≡ true → is_fit is_snapshot_build h ≡ true → is_fit is_entry (entry_by c e h) ≡ true
entry_fits (Some c) (Some e) (Some h) p q r =
    let based = is_base_version (h.base ++ codes "-SNAPSHOT") in
    both (is_classifier c && is_extension e && based) (is_build h.build)
    (both (is_classifier c && is_extension e) based (both (is_classifier c) (is_extension e) p q) (first based (is_build h.build) r))
    (second based (is_build h.build) r)
entry_fits (Some c) (Some e) None p q r = refl
entry_fits (Some c) None h p q r = refl
entry_fits None e h p q r = refl

pub entry_in_fits : (ps : List Placed) → is_fit is_entry (entry_in ps) ≡ true
entry_in_fits ps =
    entry_fits (fitting is_classifier (unwrap_or (first_at Classifier ps) [])) (option_and_then (fitting is_extension) (first_at Extension ps)) (option_and_then build_value (first_at Value ps))
    (fitting_fits is_classifier (unwrap_or (first_at Classifier ps) []))
    (fits_after is_extension (fitting is_extension) (fitting_fits is_extension) (first_at Extension ps))
    (fits_after is_snapshot_build build_value value_fits (first_at Value ps))

-- ---- the whole before anything is listed
pub snapshot_form : (ps : List Placed) (g a : Option (List ℕ)) (b : List ℕ) (n : Option BuildOf) (es : List Entry)
    → g ≡ group_in ps → a ≡ artifact_in ps → base_in ps ≡ Some b → n ≡ build_in ps → es ≡ []
    → is_document (record { group = g; artifact = a; listing = Snapshot b n es }) ≡ true
snapshot_form ps g a b n es eg ea eb en ee =
    both (is_fit is_group g && is_fit is_artifact a) (is_listing (Snapshot b n es))
    (both (is_fit is_group g) (is_fit is_artifact a) (ap (is_fit is_group) eg ∙ group_fits ps) (ap (is_fit is_artifact) ea ∙ artifact_fits ps))
    (ap (λ fs. is_listing (Snapshot b n fs)) ee ∙ builds_whole b n [] (record {
      base = subst (λ o. is_fit is_base_version o ≡ true) eb (base_fits ps);
      newest = ap (is_fit is_build) en ∙ build_in_fits ps;
      each = refl;
      sorted = refl;
      reached = refl;
    }))

pub artifact_form : (ps : List Placed) (g a : Option (List ℕ)) (vs : List (List ℕ)) (t : Option CivilTime)
    → g ≡ group_in ps → a ≡ artifact_in ps → vs ≡ [] → t ≡ moment_in ps
    → is_document (record { group = g; artifact = a; listing = Artifact vs t }) ≡ true
artifact_form ps g a vs t eg ea ev et =
    both (is_fit is_group g && is_fit is_artifact a) (is_listing (Artifact vs t))
    (both (is_fit is_group g) (is_fit is_artifact a) (ap (is_fit is_group) eg ∙ group_fits ps) (ap (is_fit is_artifact) ea ∙ artifact_fits ps))
    (ap (λ ws. is_listing (Artifact ws t)) ev ∙ versions_whole [] t (record { each = refl; rising = refl; updated = ap (is_fit is_civil) et ∙ moment_fits ps }))

pub fitting_none : (test : List ℕ → Bool) (bs : List ℕ) → None ≡ fitting test bs → test bs ≡ false
fitting_none test bs =
    elim (test bs) as (λ b. None ≡ (if b then Some bs else None) → b ≡ false) [
      | true ↦ λ e. absurd cc
      | false ↦ λ e. refl
    ]

-- the value that was passed on fits, and is the one that was looked at
pub fitting_some : (test : List ℕ → Bool) (bs v : List ℕ) → Some v ≡ fitting test bs → (test bs ≡ true) × (v ≡ bs)
fitting_some test bs v =
    elim (test bs) as (λ b. test bs ≡ b → Some v ≡ (if b then Some bs else None) → (test bs ≡ true) × (v ≡ bs)) [
      | true ↦ λ t e. (t, cc)
      | false ↦ λ t e. absurd cc
    ] refl
