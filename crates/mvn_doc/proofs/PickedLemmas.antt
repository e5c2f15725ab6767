-- The elements that a written document is read as are read as that document.
use Rattle.std.proofs.Common.{◌≡◌, ℕ, ◌<◌, Bool, true, false, cond, ◌&&◌, List, [], ◌∷◌, ◌++◌, filter, fold, map, Option, Some, None, option_and_then, option_map, refl, ap, ◌∙◌, arith, append-nil}
use Rattle.std.specs.Prelude.{if◌then◌else◌, codes}
use Rattle.std.specs.BTreeSet.{insert_key}
use Rattle.std.specs.List.{list_all}
use Rattle.std.specs.Ordering.{is_lt}
use Rattle.std.proofs.lemmas.Bool.{not-true}
use Rattle.mvn_coords.specs.Civil.{CivilTime, is_civil, time_of}
use Rattle.mvn_coords.specs.FileName.{BuildOf, is_build_number, number_of}
use Rattle.mvn_version.specs.Order.{list_cmp}
use Rattle.mvn_metadata.specs.declared.listing.Listing.{Listing}
use Rattle.mvn_metadata.specs.declared.listing.Listing.TheVariants.{Artifact, Snapshot}
use Rattle.mvn_metadata.specs.declared.pair.SnapshotBuild.{SnapshotBuild}
use Rattle.mvn_doc.specs.declared.place.Place.{Place}
use Rattle.mvn_doc.specs.declared.place.Place.TheVariants as place
use Rattle.mvn_metadata.specs.Document.{Document, newest_build, with_build, with_version, latest, release}
use Rattle.mvn_coords.specs.Segment.{is_artifact, is_version_directory}
use Rattle.mvn_metadata.specs.Form.{is_base_version, is_build, is_classifier, is_document, is_entry, is_extension, is_fit, is_group, is_listing, is_reached}
use Rattle.mvn_metadata.specs.Merge.{Entry, with_entries, with_entry, with_versions}
use Rattle.mvn_metadata.specs.Order.{build_cmp}
use Rattle.mvn_doc.specs.Picked.{artifact_in, base_in, build_by, build_in, build_value, document_in, entries_in, entry_by, entry_in, first_at, fitting, group_in, listing_in, moment_in, moment_of, onto, section, versions_in}
use Rattle.mvn_doc.specs.Place.{Placed, is_at, place_number}
use Rattle.mvn_metadata.specs.Written.{build_version, moment_text}
use Rattle.mvn_metadata.proofs.Bools.{first, second}
use Rattle.mvn_metadata.proofs.FormLemmas.{builds_parts, listing_of, versions_parts}
use Rattle.mvn_doc.proofs.LaidOut.{Lines, NoLines, Line, Block, artifact_inside, classifier_if, each_entry, each_version, entries_block, entry_inside, line_if, listing_inside, newest_block, placed_lines, placed_of, snapshot_inside, versions_block}
use Rattle.mvn_metadata.proofs.MergeLaws.{with_entries_none, with_versions_none}
use Rattle.mvn_doc.proofs.PlacedLemmas.{apart, entries_skips, first_skips, found_if, lacks, past_all, past_block, past_front, past_if, section_ends, versions_skips}
use Rattle.mvn_doc.proofs.ValueLemmas.{build_value_again, entry_parts, moments_again, number_again, time_again}

-- a value that fits is kept
fits : (test : List ℕ → Bool) (value : Option (List ℕ)) → is_fit test value ≡ true → option_and_then (fitting test) value ≡ value
fits test None h = refl
fits test (Some value) h = ap (λ b. cond b (Some value) None) h

-- ---- group and artifact
-- the elements that tell what is listed
abbrev listed : Listing → List Placed
listed l = placed_lines place.Metadata (listing_inside l)

no_versioning : (at : Place) (inner : Lines) → place_number at < place_number place.Versioning → first_at at (placed_lines place.Metadata (Block (codes "versioning") inner NoLines)) ≡ None
no_versioning at inner h = past_block at (first_at at) (first_skips at) place.Metadata (codes "versioning") inner NoLines h

none_listed : (at : Place) (l : Listing) → place_number at < place_number place.BaseVersion → first_at at (listed l) ≡ None
none_listed at (Artifact vs t) h = no_versioning at (artifact_inside vs t) (omega arith)
none_listed at (Snapshot base n es) h =
    first_skips at (record { place = place.BaseVersion; text = base }) (placed_lines place.Metadata (Block (codes "versioning") (snapshot_inside n es) NoLines)) (apart place.BaseVersion at h)
    ∙ no_versioning at (snapshot_inside n es) (omega arith)

group_again : (d : Document) → is_fit is_group d.group ≡ true → group_in (placed_of d) ≡ d.group
group_again d h =
    let more = line_if (codes "artifactId") d.artifact (listing_inside d.listing) in
    let none : first_at place.GroupId (placed_lines place.Metadata more) ≡ None =
    past_if place.GroupId (first_at place.GroupId) (first_skips place.GroupId) place.Metadata (codes "artifactId") d.artifact (listing_inside d.listing) refl
    ∙ none_listed place.GroupId d.listing (omega arith) in
    ap (option_and_then (fitting is_group)) (found_if place.GroupId place.Metadata (codes "groupId") d.group more refl none)
    ∙ fits is_group d.group h

artifact_again : (d : Document) → is_fit is_artifact d.artifact ≡ true → artifact_in (placed_of d) ≡ d.artifact
artifact_again d h =
    ap (option_and_then (fitting is_artifact))
    (past_if place.ArtifactId (first_at place.ArtifactId) (first_skips place.ArtifactId) place.Metadata (codes "groupId") d.group (line_if (codes "artifactId") d.artifact (listing_inside d.listing)) refl
    ∙ found_if place.ArtifactId place.Metadata (codes "artifactId") d.artifact (listing_inside d.listing) refl (none_listed place.ArtifactId d.listing (omega arith)))
    ∙ fits is_artifact d.artifact h

-- ---- versions and the moment of the last change
version_seen : (v : List ℕ) (ps : List Placed) → is_version_directory v ≡ true → versions_in (record { place = place.Version; text = v } ∷ ps) ≡ v ∷ versions_in ps
version_seen v ps h =
    let p : Placed = record { place = place.Version; text = v } in
    let kept = filter (λ (q : Placed). is_at q.place place.Version && is_version_directory q.text) ps in
    ap (λ b. map (λ (q : Placed). q.text) (cond b (p ∷ kept) kept)) h

each_version_again : (vs : List (List ℕ)) (rest : List Placed) → list_all is_version_directory vs ≡ true → versions_in (placed_lines place.Versions (each_version vs) ++ rest) ≡ vs ++ versions_in rest
each_version_again [] rest h = refl
each_version_again (v ∷ vs) rest h =
    version_seen v (placed_lines place.Versions (each_version vs) ++ rest) (first (is_version_directory v) (list_all is_version_directory vs) h)
    ∙ ap (λ ws. v ∷ ws) (each_version_again vs rest (second (is_version_directory v) (list_all is_version_directory vs) h))

versions_block_again : (vs : List (List ℕ)) (more : Lines) → list_all is_version_directory vs ≡ true → versions_in (placed_lines place.Versioning (versions_block vs more)) ≡ vs ++ versions_in (placed_lines place.Versioning more)
versions_block_again [] more h = refl
versions_block_again (v ∷ vs) more h = each_version_again (v ∷ vs) (placed_lines place.Versioning more) h

past_versions : (vs : List (List ℕ)) (more : Lines) → first_at place.LastUpdated (placed_lines place.Versioning (versions_block vs more)) ≡ first_at place.LastUpdated (placed_lines place.Versioning more)
past_versions [] more = refl
past_versions (v ∷ vs) more =
    past_block place.LastUpdated (first_at place.LastUpdated) (first_skips place.LastUpdated) place.Versioning (codes "versions") (each_version (v ∷ vs)) more (omega arith)

-- what stands after `latest` and `release`
past_names : {X : Type 0} (at : Place) (f : List Placed → X) → ((p : Placed) (ps : List Placed) → is_at p.place at ≡ false → f (p ∷ ps) ≡ f ps) → is_at place.Other at ≡ false → (vs : List (List ℕ)) (more : Lines)
    → f (placed_lines place.Versioning (line_if (codes "latest") (latest vs) (line_if (codes "release") (release vs) more))) ≡ f (placed_lines place.Versioning more)
past_names at f skips other vs more =
    past_if at f skips place.Versioning (codes "latest") (latest vs) (line_if (codes "release") (release vs) more) other
    ∙ past_if at f skips place.Versioning (codes "release") (release vs) more other

versions_again : (vs : List (List ℕ)) (t : Option CivilTime) → list_all is_version_directory vs ≡ true → versions_in (listed (Artifact vs t)) ≡ vs
versions_again vs t h =
    let last = line_if (codes "lastUpdated") (option_map moment_text t) NoLines in
    ap versions_in (append-nil (placed_lines place.Versioning (artifact_inside vs t)))
    ∙ past_names place.Version versions_in versions_skips refl vs (versions_block vs last)
    ∙ versions_block_again vs last h
    ∙ ap (λ ws. vs ++ ws) (past_if place.Version versions_in versions_skips place.Versioning (codes "lastUpdated") (option_map moment_text t) NoLines refl)
    ∙ append-nil vs

updated_again : (vs : List (List ℕ)) (t : Option CivilTime) → is_fit is_civil t ≡ true → moment_in (listed (Artifact vs t)) ≡ t
updated_again vs t h =
    let last = line_if (codes "lastUpdated") (option_map moment_text t) NoLines in
    ap (option_and_then moment_of)
    (ap (first_at place.LastUpdated) (append-nil (placed_lines place.Versioning (artifact_inside vs t)))
    ∙ past_names place.LastUpdated (first_at place.LastUpdated) (first_skips place.LastUpdated) refl vs (versions_block vs last)
    ∙ past_versions vs last
    ∙ found_if place.LastUpdated place.Versioning (codes "lastUpdated") (option_map moment_text t) NoLines refl refl)
    ∙ moments_again t h

with_each_version : (t : Option CivilTime) (vs ws : List (List ℕ)) → fold with_version (Artifact vs t) ws ≡ Artifact (with_versions vs ws) t
with_each_version t vs [] = refl
with_each_version t vs (w ∷ ws) = with_each_version t (insert_key list_cmp vs w) ws

-- ---- the newest build
newest_again : (base : List ℕ) (n : Option BuildOf) (es : List Entry) → is_fit is_build n ≡ true → list_all (λ e. is_reached n e.1.build) es ≡ true → build_in (listed (Snapshot base n es)) ≡ n
newest_again base (Some b) es h r =
    let stamp = time_again b.stamp (first (is_civil b.stamp) (is_build_number b.number) h) in
    let number = number_again b.number (second (is_civil b.stamp) (is_build_number b.number) h) in
    λ i. build_by (stamp i) (number i)
newest_again base None [] h r = refl
newest_again base None (e ∷ es) h r = absurd cc

newest_stays : (n : Option BuildOf) (b : BuildOf) → is_reached n b ≡ true → newest_build n (Some b) ≡ n
newest_stays None b h = absurd cc
newest_stays (Some n) b h = ap (λ t. Some (if t then b else n)) (not-true (is_lt (build_cmp n b)) h)

-- ---- entries
-- the elements inside a `snapshotVersion`
abbrev entry_placed : List ℕ → List ℕ → List ℕ → List ℕ → List Placed
entry_placed c x v u = placed_lines place.SnapshotVersion (classifier_if c (Line (codes "extension") x (Line (codes "value") v (Line (codes "updated") u NoLines))))

entry_lacks : (c x v u : List ℕ) → lacks place.SnapshotVersion (entry_placed c x v u) ≡ true
entry_lacks [] x v u = refl
entry_lacks (b ∷ bs) x v u = refl

entry_values : (c x v u : List ℕ) → entry_in (entry_placed c x v u) ≡ entry_by (fitting is_classifier c) (option_and_then (fitting is_extension) (Some x)) (build_value v)
entry_values [] x v u = refl
entry_values (b ∷ bs) x v u = refl

entry_read : (c x v u : List ℕ) (h : SnapshotBuild) → is_classifier c ≡ true → is_extension x ≡ true → build_value v ≡ Some h → entry_in (entry_placed c x v u) ≡ Some (record { classifier = c; extension = x }, h)
entry_read c x v u h g k e =
    let classifier = fits is_classifier (Some c) g in
    let extension = fits is_extension (Some x) k in
    entry_values c x v u ∙ (λ i. entry_by (classifier i) (extension i) (e i))

section_none : (es : List Entry) → section (placed_lines place.SnapshotVersions (each_entry es)) ≡ []
section_none [] = refl
section_none (e ∷ es) = refl

each_entry_again : (es : List Entry) → list_all is_entry es ≡ true → entries_in (placed_lines place.SnapshotVersions (each_entry es)) ≡ es
each_entry_again [] h = refl
each_entry_again (e ∷ es) h =
    let here = first (is_entry e) (list_all is_entry es) h in
    let p = entry_parts e here in
    let u = moment_text e.1.build.stamp in
    let lack = entry_lacks e.0.classifier e.0.extension (build_version e) u in
    let inner = placed_lines place.SnapshotVersion (entry_inside e) in
    let rest = placed_lines place.SnapshotVersions (each_entry es) in
    let read : entry_in (section (inner ++ rest)) ≡ Some e =
    ap entry_in (section_ends inner rest lack (section_none es))
    ∙ entry_read e.0.classifier e.0.extension (build_version e) u e.1 p.classifier p.extension (build_value_again e here) in
    let others : entries_in (inner ++ rest) ≡ es =
    past_all place.SnapshotVersion entries_in entries_skips inner rest lack
    ∙ each_entry_again es (second (is_entry e) (list_all is_entry es) h) in
    λ i. onto (read i) (others i)

past_newest : (n : Option BuildOf) (more : Lines) → entries_in (placed_lines place.Versioning (newest_block n more)) ≡ entries_in (placed_lines place.Versioning more)
past_newest None more = refl
past_newest (Some b) more = refl

entries_block_again : (es : List Entry) → list_all is_entry es ≡ true → entries_in (placed_lines place.Versioning (entries_block es NoLines)) ≡ es
entries_block_again [] h = refl
entries_block_again (e ∷ es) h = ap entries_in (append-nil (placed_lines place.SnapshotVersions (each_entry (e ∷ es)))) ∙ each_entry_again (e ∷ es) h

entries_again : (base : List ℕ) (n : Option BuildOf) (es : List Entry) → list_all is_entry es ≡ true → entries_in (listed (Snapshot base n es)) ≡ es
entries_again base n es h =
    let moment = option_map moment_text (option_map (λ (b : BuildOf). b.stamp) n) in
    ap entries_in (append-nil (placed_lines place.Versioning (snapshot_inside n es)))
    ∙ past_newest n (line_if (codes "lastUpdated") moment (entries_block es NoLines))
    ∙ past_if place.SnapshotVersion entries_in entries_skips place.Versioning (codes "lastUpdated") moment (entries_block es NoLines) refl
    ∙ entries_block_again es h

with_each_build : (base : List ℕ) (n : Option BuildOf) (es fs : List Entry) → list_all (λ e. is_reached n e.1.build) fs ≡ true → fold with_build (Snapshot base n es) fs ≡ Snapshot base n (with_entries es fs)
with_each_build base n es [] h = refl
with_each_build base n es (f ∷ fs) h =
    let here = first (is_reached n f.1.build) (list_all (λ (e : Entry). is_reached n e.1.build) fs) h in
    ap (λ m. fold with_build (Snapshot base m (with_entry es f)) fs) (newest_stays n f.1.build here)
    ∙ with_each_build base n (with_entry es f) fs (second (is_reached n f.1.build) (list_all (λ (e : Entry). is_reached n e.1.build) fs) h)

-- ---- what is listed
listing_inside_again : (l : Listing) → is_listing l ≡ true → listing_in (base_in (listed l)) (listed l) ≡ l
listing_inside_again (Artifact vs t) h =
    let p = versions_parts vs t h in
    let base : base_in (listed (Artifact vs t)) ≡ None =
    ap (option_and_then (fitting is_base_version)) (no_versioning place.BaseVersion (artifact_inside vs t) (omega arith)) in
    let updated = updated_again vs t p.updated in
    let versions = versions_again vs t p.each in
    ap (λ b. listing_in b (listed (Artifact vs t))) base
    ∙ (λ i. fold with_version (Artifact [] (updated i)) (versions i))
    ∙ with_each_version t [] vs
    ∙ ap (λ ws. Artifact ws t) (with_versions_none vs p.rising)
listing_inside_again (Snapshot base n es) h =
    let p = builds_parts base n es h in
    let newest = newest_again base n es p.newest p.reached in
    let entries = entries_again base n es p.each in
    ap (λ b. listing_in b (listed (Snapshot base n es))) (fits is_base_version (Some base) p.base)
    ∙ (λ i. fold with_build (Snapshot base (newest i) []) (entries i))
    ∙ with_each_build base n [] es p.reached
    ∙ ap (λ fs. Snapshot base n fs) (with_entries_none es p.sorted)

-- what is listed is told by the elements at five places alone
same_listing : (b : Option (List ℕ)) (ps qs : List Placed) → first_at place.LastUpdated ps ≡ first_at place.LastUpdated qs → versions_in ps ≡ versions_in qs
    → first_at place.Timestamp ps ≡ first_at place.Timestamp qs → first_at place.BuildNumber ps ≡ first_at place.BuildNumber qs → entries_in ps ≡ entries_in qs → listing_in b ps ≡ listing_in b qs
same_listing None ps qs u v s n e = λ i. fold with_version (Artifact [] (option_and_then moment_of (u i))) (v i)
same_listing (Some base) ps qs u v s n e =
    λ i. fold with_build (Snapshot base (build_by (option_and_then time_of (s i)) (option_and_then number_of (n i))) []) (e i)

first_past_front : (at : Place) (d : Document) → is_at place.Metadata at ≡ false → is_at place.GroupId at ≡ false → is_at place.ArtifactId at ≡ false → first_at at (placed_of d) ≡ first_at at (listed d.listing)
first_past_front at d m g a = past_front at (first_at at) (first_skips at) d m g a

listing_again : (d : Document) → is_listing d.listing ≡ true → listing_in (base_in (placed_of d)) (placed_of d) ≡ d.listing
listing_again d h =
    let ps = listed d.listing in
    ap (λ b. listing_in b (placed_of d)) (ap (option_and_then (fitting is_base_version)) (first_past_front place.BaseVersion d refl refl refl))
    ∙ same_listing (base_in ps) (placed_of d) ps
    (first_past_front place.LastUpdated d refl refl refl)
    (past_front place.Version versions_in versions_skips d refl refl refl)
    (first_past_front place.Timestamp d refl refl refl)
    (first_past_front place.BuildNumber d refl refl refl)
    (past_front place.SnapshotVersion entries_in entries_skips d refl refl refl)
    ∙ listing_inside_again d.listing h

pub picked_again : (d : Document) → is_document d ≡ true → document_in (placed_of d) ≡ d
picked_again d h =
    let front = first (is_fit is_group d.group && is_fit is_artifact d.artifact) (is_listing d.listing) h in
    let group = group_again d (first (is_fit is_group d.group) (is_fit is_artifact d.artifact) front) in
    let artifact = artifact_again d (second (is_fit is_group d.group) (is_fit is_artifact d.artifact) front) in
    let listing = listing_again d (listing_of d h) in
    λ i. record { group = group i; artifact = artifact i; listing = listing i }
