-- The lines of a document have names, values and at most 31 levels.
use Rattle.std.proofs.Common.{◌≡◌, ℕ, suc, Bool, true, ◌&&◌, List, [], ◌∷◌, ◌++◌, refl, Option, Some, None}
use Rattle.std.specs.Prelude.{codes}
use Rattle.std.specs.List.{list_all}
use Rattle.std.specs.Option.{option_map}
use Rattle.mvn_coords.specs.Civil.{CivilTime, is_civil, text_of_time}
use Rattle.mvn_coords.specs.FileName.{BuildOf, is_build_number}
use Rattle.xml_subset.specs.Spelling.{is_name}
use Rattle.mvn_metadata.specs.declared.listing.Listing.{Listing}
use Rattle.mvn_metadata.specs.declared.listing.Listing.TheVariants.{Artifact, Snapshot}
use Rattle.mvn_metadata.specs.Document.{Document, latest, release}
use Rattle.mvn_coords.specs.Segment.{is_artifact, is_version_directory}
use Rattle.mvn_metadata.specs.Form.{is_base_version, is_build, is_classifier, is_document, is_entry, is_extension, is_fit, is_group, is_listing}
use Rattle.mvn_metadata.specs.Merge.{Entry}
use Rattle.mvn_coords.specs.Layout.{text_of_number}
use Rattle.mvn_metadata.specs.Written.{build_version, moment_text}
use Rattle.mvn_metadata.proofs.Bools.{both, first, second, list_all_weaker}
use Rattle.mvn_metadata.proofs.FormLemmas.{builds_parts, listing_of, versions_parts}
use Rattle.mvn_doc.proofs.LaidOut.{Lines, NoLines, Line, Block, artifact_inside, classifier_if, each_entry, each_version, entries_block, entry_inside, line_if, lines_of, listing_inside, newest_block, snapshot_inside, versions_block}
use Rattle.mvn_doc.proofs.LinesOutlined.{are_lines, is_line_value}
use Rattle.mvn_doc.proofs.LineValues.{artifact_value, base_value, build_value, classifier_value, extension_value, group_value, latest_fits, moment_value, number_value, release_fits, time_value, version_value}

-- ---- lines and blocks
line_fits : (n : ℕ) (name value : List ℕ) (more : Lines) → is_name name ≡ true → is_line_value value ≡ true → are_lines (suc n) more ≡ true → are_lines (suc n) (Line name value more) ≡ true
line_fits n name value more f g h =
    both (is_name name) (is_line_value value && are_lines (suc n) more) f (both (is_line_value value) (are_lines (suc n) more) g h)

block_fits : (n : ℕ) (name : List ℕ) (inner more : Lines) → is_name name ≡ true → are_lines n inner ≡ true → are_lines (suc n) more ≡ true → are_lines (suc n) (Block name inner more) ≡ true
block_fits n name inner more f g h =
    both (is_name name) (are_lines n inner && are_lines (suc n) more) f (both (are_lines n inner) (are_lines (suc n) more) g h)

line_if_fits : (n : ℕ) (name : List ℕ) (value : Option (List ℕ)) (more : Lines) → is_name name ≡ true → is_fit is_line_value value ≡ true → are_lines (suc n) more ≡ true → are_lines (suc n) (line_if name value more) ≡ true
line_if_fits n name None more f g h = h
line_if_fits n name (Some value) more f g h = line_fits n name value more f g h

-- ---- versions
versions_fit : (n : ℕ) (vs : List (List ℕ)) → list_all is_line_value vs ≡ true → are_lines (suc n) (each_version vs) ≡ true
versions_fit n [] h = refl
versions_fit n (v ∷ vs) h =
    line_fits n (codes "version") v (each_version vs) refl (first (is_line_value v) (list_all is_line_value vs) h)
    (versions_fit n vs (second (is_line_value v) (list_all is_line_value vs) h))

versions_block_fits : (n : ℕ) (vs : List (List ℕ)) (more : Lines) → list_all is_line_value vs ≡ true → are_lines (suc (suc n)) more ≡ true → are_lines (suc (suc n)) (versions_block vs more) ≡ true
versions_block_fits n [] more g h = h
versions_block_fits n (v ∷ vs) more g h =
    block_fits (suc n) (codes "versions") (each_version (v ∷ vs)) more refl (versions_fit n (v ∷ vs) g) h

moment_fits : (t : Option CivilTime) → is_fit is_line_value (option_map moment_text t) ≡ true
moment_fits None = refl
moment_fits (Some t) = moment_value t

artifact_fits : (n : ℕ) (vs : List (List ℕ)) (t : Option CivilTime) → list_all is_line_value vs ≡ true → are_lines (suc (suc n)) (artifact_inside vs t) ≡ true
artifact_fits n vs t h =
    let last = line_if (codes "lastUpdated") (option_map moment_text t) NoLines in
    let third = versions_block vs last in
    line_if_fits (suc n) (codes "latest") (latest vs) (line_if (codes "release") (release vs) third) refl (latest_fits is_line_value vs None refl h)
    (line_if_fits (suc n) (codes "release") (release vs) third refl (release_fits is_line_value vs None refl h)
    (versions_block_fits n vs last h (line_if_fits (suc n) (codes "lastUpdated") (option_map moment_text t) NoLines refl (moment_fits t) refl)))

-- ---- entries
record EntryPasses (e : Entry) : Type 0 where
  classifier : is_classifier e.0.classifier ≡ true
  extension : is_extension e.0.extension ≡ true
  base : is_base_version (e.1.base ++ codes "-SNAPSHOT") ≡ true
  number : is_build_number e.1.build.number ≡ true

entry_parts : (e : Entry) → is_entry e ≡ true → EntryPasses e
entry_parts e h =
    let C = is_classifier e.0.classifier in
    let X = is_extension e.0.extension in
    let B = is_base_version (e.1.base ++ codes "-SNAPSHOT") in
    let three = first (C && X && B) (is_build e.1.build) h in
    let two = first (C && X) B three in
    record {
      classifier = first C X two;
      extension = second C X two;
      base = second (C && X) B three;
      number = second (is_civil e.1.build.stamp) (is_build_number e.1.build.number) (second (C && X && B) (is_build e.1.build) h);
    }

classifier_fits : (n : ℕ) (classifier : List ℕ) (more : Lines) → is_classifier classifier ≡ true → are_lines (suc n) more ≡ true → are_lines (suc n) (classifier_if classifier more) ≡ true
classifier_fits n [] more g h = h
classifier_fits n (b ∷ bs) more g h = line_fits n (codes "classifier") (b ∷ bs) more refl (classifier_value b bs g) h

entry_fits : (n : ℕ) (e : Entry) → is_entry e ≡ true → are_lines (suc n) (entry_inside e) ≡ true
entry_fits n e h =
    let p = entry_parts e h in
    let moment = moment_text e.1.build.stamp in
    let updated = Line (codes "updated") moment NoLines in
    let valued = Line (codes "value") (build_version e) updated in
    classifier_fits n e.0.classifier (Line (codes "extension") e.0.extension valued) p.classifier
    (line_fits n (codes "extension") e.0.extension valued refl (extension_value e.0.extension p.extension)
    (line_fits n (codes "value") (build_version e) updated refl (build_value e.1.base e.1.build p.base p.number)
    (line_fits n (codes "updated") moment NoLines refl (moment_value e.1.build.stamp) refl)))

entries_fit : (n : ℕ) (es : List Entry) → list_all is_entry es ≡ true → are_lines (suc (suc n)) (each_entry es) ≡ true
entries_fit n [] h = refl
entries_fit n (e ∷ es) h =
    block_fits (suc n) (codes "snapshotVersion") (entry_inside e) (each_entry es) refl (entry_fits n e (first (is_entry e) (list_all is_entry es) h))
    (entries_fit n es (second (is_entry e) (list_all is_entry es) h))

entries_block_fits : (n : ℕ) (es : List Entry) → list_all is_entry es ≡ true → are_lines (suc (suc (suc n))) (entries_block es NoLines) ≡ true
entries_block_fits n [] h = refl
entries_block_fits n (e ∷ es) h =
    block_fits (suc (suc n)) (codes "snapshotVersions") (each_entry (e ∷ es)) NoLines refl (entries_fit n (e ∷ es) h) refl

newest_fits : (n : ℕ) (newest : Option BuildOf) (more : Lines) → is_fit is_build newest ≡ true → are_lines (suc (suc n)) more ≡ true → are_lines (suc (suc n)) (newest_block newest more) ≡ true
newest_fits n None more g h = h
newest_fits n (Some b) more g h =
    let number = Line (codes "buildNumber") (text_of_number b.number) NoLines in
    block_fits (suc n) (codes "snapshot") (Line (codes "timestamp") (text_of_time b.stamp) number) more refl
    (line_fits n (codes "timestamp") (text_of_time b.stamp) number refl (time_value b.stamp)
    (line_fits n (codes "buildNumber") (text_of_number b.number) NoLines refl (number_value b.number (second (is_civil b.stamp) (is_build_number b.number) g)) refl)) h

snapshot_fits : (n : ℕ) (newest : Option BuildOf) (es : List Entry) → is_fit is_build newest ≡ true → list_all is_entry es ≡ true → are_lines (suc (suc (suc n))) (snapshot_inside newest es) ≡ true
snapshot_fits n newest es g h =
    let stamp = option_map (λ (b : BuildOf). b.stamp) newest in
    let last = entries_block es NoLines in
    newest_fits (suc n) newest (line_if (codes "lastUpdated") (option_map moment_text stamp) last) g
    (line_if_fits (suc (suc n)) (codes "lastUpdated") (option_map moment_text stamp) last refl (moment_fits stamp) (entries_block_fits n es h))

-- ---- the whole document
listing_fits : (n : ℕ) (l : Listing) → is_listing l ≡ true → are_lines (suc (suc (suc (suc n)))) (listing_inside l) ≡ true
listing_fits n (Artifact vs t) h =
    block_fits (suc (suc (suc n))) (codes "versioning") (artifact_inside vs t) NoLines refl
    (artifact_fits (suc n) vs t (list_all_weaker is_version_directory is_line_value vs version_value (versions_parts vs t h).each)) refl
listing_fits n (Snapshot base newest es) h =
    let p = builds_parts base newest es h in
    line_fits (suc (suc (suc n))) (codes "version") base (Block (codes "versioning") (snapshot_inside newest es) NoLines) refl (base_value base p.base)
    (block_fits (suc (suc (suc n))) (codes "versioning") (snapshot_inside newest es) NoLines refl (snapshot_fits n newest es p.newest p.each) refl)

fits_weaker : (p q : List ℕ → Bool) (o : Option (List ℕ)) → ((v : List ℕ) → p v ≡ true → q v ≡ true) → is_fit p o ≡ true → is_fit q o ≡ true
fits_weaker p q None w h = refl
fits_weaker p q (Some v) w h = w v h

pub document_fits : (d : Document) → is_document d ≡ true → are_lines 31 (lines_of d) ≡ true
document_fits d h =
    let front = first (is_fit is_group d.group && is_fit is_artifact d.artifact) (is_listing d.listing) h in
    let group = first (is_fit is_group d.group) (is_fit is_artifact d.artifact) front in
    let artifact = second (is_fit is_group d.group) (is_fit is_artifact d.artifact) front in
    let listing = listing_inside d.listing in
    line_if_fits 30 (codes "groupId") d.group (line_if (codes "artifactId") d.artifact listing) refl (fits_weaker is_group is_line_value d.group group_value group)
    (line_if_fits 30 (codes "artifactId") d.artifact listing refl (fits_weaker is_artifact is_line_value d.artifact artifact_value artifact)
    (listing_fits 27 d.listing (listing_of d h)))
