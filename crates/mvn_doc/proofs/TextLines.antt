-- A written document is its lines, between a front and the close tag of its root.
use Rattle.std.proofs.Common.{◌≡◌, ℕ, List, [], ◌∷◌, ◌++◌, Option, Some, None, refl, sym, ap, ◌∙◌, append_assoc, append-nil}
use Rattle.std.specs.Prelude.{codes}
use Rattle.std.specs.List.{flat_map}
use Rattle.std.specs.Option.{option_map}
use Rattle.mvn_coords.specs.Civil.{CivilTime, text_of_time}
use Rattle.mvn_coords.specs.FileName.{BuildOf}
use Rattle.mvn_metadata.specs.declared.listing.Listing.{Listing}
use Rattle.mvn_metadata.specs.declared.listing.Listing.TheVariants.{Artifact, Snapshot}
use Rattle.mvn_metadata.specs.Document.{Document, latest, release}
use Rattle.mvn_metadata.specs.Merge.{Entry}
use Rattle.mvn_coords.specs.Layout.{text_of_number}
use Rattle.mvn_metadata.specs.Written.{artifact_lines, block, build_version, classifier_line, close_tag, declaration, element, element_if, entries_lines, entry_lines, listing_lines, moment_text, newest_lines, snapshot_lines, text, updated_line, version_line, version_lines}
use Rattle.mvn_doc.proofs.LaidOut.{Lines, NoLines, Line, artifact_inside, classifier_if, each_entry, each_version, entries_block, entry_inside, line_if, lines_of, lines_text, listing_inside, newest_block, snapshot_inside, versions_block}

-- ---- single lines and blocks
line_if_text : (margin name : List ℕ) (value : Option (List ℕ)) (more : Lines) → lines_text margin (line_if name value more) ≡ element_if margin name value ++ lines_text margin more
line_if_text margin name None more = refl
line_if_text margin name (Some value) more = refl

versions_text : (vs : List (List ℕ)) → lines_text (codes "      ") (each_version vs) ≡ flat_map version_line vs
versions_text [] = refl
versions_text (v ∷ vs) = ap (λ t. version_line v ++ t) (versions_text vs)

versions_block_text : (vs : List (List ℕ)) (more : Lines) → lines_text (codes "    ") (versions_block vs more) ≡ version_lines vs ++ lines_text (codes "    ") more
versions_block_text [] more = refl
versions_block_text (v ∷ vs) more =
    ap (λ t. block (codes "    ") (codes "versions") t ++ lines_text (codes "    ") more) (versions_text (v ∷ vs))

classifier_text : (classifier : List ℕ) (more : Lines) → lines_text (codes "        ") (classifier_if classifier more) ≡ classifier_line classifier ++ lines_text (codes "        ") more
classifier_text [] more = refl
classifier_text (b ∷ bs) more = refl

three : (a b c : List ℕ) → a ++ (b ++ (c ++ [])) ≡ a ++ b ++ c
three a b c = simp (append_assoc, append-nil)

four : (a b c d : List ℕ) → a ++ (b ++ (c ++ (d ++ []))) ≡ a ++ b ++ c ++ d
four a b c d = simp (append_assoc, append-nil)

-- ---- the lines of an entry, and of all entries
entry_text : (e : Entry) → block (codes "      ") (codes "snapshotVersion") (lines_text (codes "        ") (entry_inside e)) ≡ entry_lines e
entry_text e =
    let margin = codes "        " in
    let extension = element margin (codes "extension") e.0.extension in
    let value = element margin (codes "value") (build_version e) in
    let updated = element margin (codes "updated") (moment_text e.1.build.stamp) in
    let more = Line (codes "extension") e.0.extension (Line (codes "value") (build_version e) (Line (codes "updated") (moment_text e.1.build.stamp) NoLines)) in
    ap (block (codes "      ") (codes "snapshotVersion"))
    (classifier_text e.0.classifier more ∙ four (classifier_line e.0.classifier) extension value updated)

entries_text : (es : List Entry) → lines_text (codes "      ") (each_entry es) ≡ flat_map entry_lines es
entries_text [] = refl
entries_text (e ∷ es) =
    ap (λ t. t ++ lines_text (codes "      ") (each_entry es)) (entry_text e) ∙ ap (λ t. entry_lines e ++ t) (entries_text es)

entries_block_text : (es : List Entry) (more : Lines) → lines_text (codes "    ") (entries_block es more) ≡ entries_lines es ++ lines_text (codes "    ") more
entries_block_text [] more = refl
entries_block_text (e ∷ es) more =
    ap (λ t. block (codes "    ") (codes "snapshotVersions") t ++ lines_text (codes "    ") more) (entries_text (e ∷ es))

newest_text : (newest : Option BuildOf) (more : Lines) → lines_text (codes "    ") (newest_block newest more) ≡ newest_lines newest ++ lines_text (codes "    ") more
newest_text None more = refl
newest_text (Some b) more =
    let stamp = element (codes "      ") (codes "timestamp") (text_of_time b.stamp) in
    ap (λ t. block (codes "    ") (codes "snapshot") (stamp ++ t) ++ lines_text (codes "    ") more)
    (append-nil (element (codes "      ") (codes "buildNumber") (text_of_number b.number)))

-- ---- what is listed
artifact_text : (vs : List (List ℕ)) (t : Option CivilTime) → lines_text (codes "    ") (artifact_inside vs t) ≡ artifact_lines vs t
artifact_text vs t =
    let margin = codes "    " in
    let first = element_if margin (codes "latest") (latest vs) in
    let second = element_if margin (codes "release") (release vs) in
    let moment = option_map moment_text t in
    let last = line_if (codes "lastUpdated") moment NoLines in
    let third = versions_block vs last in
    line_if_text margin (codes "latest") (latest vs) (line_if (codes "release") (release vs) third)
    ∙ ap (λ s. first ++ s) (line_if_text margin (codes "release") (release vs) third)
    ∙ ap (λ s. first ++ (second ++ s)) (versions_block_text vs last)
    ∙ ap (λ s. first ++ (second ++ (version_lines vs ++ s))) (line_if_text margin (codes "lastUpdated") moment NoLines)
    ∙ four first second (version_lines vs) (updated_line t)

snapshot_text : (newest : Option BuildOf) (es : List Entry) → lines_text (codes "    ") (snapshot_inside newest es) ≡ snapshot_lines newest es
snapshot_text newest es =
    let stamp = option_map (λ (b : BuildOf). b.stamp) newest in
    let moment = option_map moment_text stamp in
    let last = entries_block es NoLines in
    newest_text newest (line_if (codes "lastUpdated") moment last)
    ∙ ap (λ s. newest_lines newest ++ s) (line_if_text (codes "    ") (codes "lastUpdated") moment last)
    ∙ ap (λ s. newest_lines newest ++ (updated_line stamp ++ s)) (entries_block_text es NoLines)
    ∙ three (newest_lines newest) (updated_line stamp) (entries_lines es)

listing_text : (l : Listing) → lines_text (codes "  ") (listing_inside l) ≡ listing_lines l
listing_text (Artifact vs t) =
    append-nil (block (codes "  ") (codes "versioning") (lines_text (codes "    ") (artifact_inside vs t)))
    ∙ ap (block (codes "  ") (codes "versioning")) (artifact_text vs t)
listing_text (Snapshot base newest es) =
    ap (λ s. element (codes "  ") (codes "version") base ++ s)
    (append-nil (block (codes "  ") (codes "versioning") (lines_text (codes "    ") (snapshot_inside newest es)))
    ∙ ap (block (codes "  ") (codes "versioning")) (snapshot_text newest es))

-- ---- the whole document
lines_of_text : (d : Document) → lines_text (codes "  ") (lines_of d) ≡ element_if (codes "  ") (codes "groupId") d.group ++ (element_if (codes "  ") (codes "artifactId") d.artifact ++ listing_lines d.listing)
lines_of_text d =
    let margin = codes "  " in
    let group = element_if margin (codes "groupId") d.group in
    let artifact = element_if margin (codes "artifactId") d.artifact in
    line_if_text margin (codes "groupId") d.group (line_if (codes "artifactId") d.artifact (listing_inside d.listing))
    ∙ ap (λ s. group ++ s) (line_if_text margin (codes "artifactId") d.artifact (listing_inside d.listing))
    ∙ ap (λ s. group ++ (artifact ++ s)) (listing_text d.listing)

regrouped : (front group artifact listing close end : List ℕ) → front ++ group ++ artifact ++ listing ++ close ++ end ≡ front ++ ((group ++ (artifact ++ listing)) ++ (close ++ end))
regrouped front group artifact listing close end = simp append_assoc

pub text_lines : (d : Document) → text d ≡ declaration ++ codes "<metadata modelVersion=\"1.1.0\">" ++ (10 ∷ []) ++ (lines_text (codes "  ") (lines_of d) ++ (close_tag (codes "metadata") ++ 10 ∷ []))
text_lines d =
    let front = declaration ++ codes "<metadata modelVersion=\"1.1.0\">" ++ (10 ∷ []) in
    regrouped front (element_if (codes "  ") (codes "groupId") d.group) (element_if (codes "  ") (codes "artifactId") d.artifact) (listing_lines d.listing) (close_tag (codes "metadata")) (10 ∷ [])
    ∙ ap (λ s. front ++ (s ++ (close_tag (codes "metadata") ++ 10 ∷ []))) (sym (lines_of_text d))
