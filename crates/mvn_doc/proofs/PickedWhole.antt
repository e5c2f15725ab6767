-- What is read has the form of a document.
use Rattle.std.proofs.Common.{◌≡◌, ℕ, true, false, ◌&&◌, List, [], ◌∷◌, fold, filter, map, refl, subst, ap, Option, Some, None, Result, Ok, Err}
use Rattle.std.specs.Prelude.{codes, if◌then◌else◌}
use Rattle.std.specs.List.{list_all}
use Rattle.xml_subset.specs.Document.{outline}
use Rattle.xml_subset.specs.Element.{Element}
use Rattle.mvn_metadata.specs.declared.listing.Listing.{Listing}
use Rattle.mvn_metadata.specs.declared.listing.Listing.TheVariants.{Artifact, Snapshot}
use Rattle.mvn_doc.specs.declared.place.Place.TheVariants.{SnapshotVersion, Version}
use Rattle.mvn_metadata.specs.Document.{Document, with_build, with_version}
use Rattle.mvn_coords.specs.Segment.{is_version_directory}
use Rattle.mvn_metadata.specs.Form.{is_document, is_entry, is_fit, is_listing}
use Rattle.mvn_metadata.specs.Merge.{Entry}
use Rattle.mvn_doc.specs.Picked.{artifact_in, base_in, build_in, document_in, entries_in, entry_in, group_in, listing_in, moment_in, onto, section, versions_in}
use Rattle.mvn_doc.specs.Place.{Placed, is_at, placed}
use Rattle.mvn_doc.specs.Reading.{picked, reading}
use Rattle.mvn_metadata.proofs.Bools.{both, first, second}
use Rattle.mvn_metadata.proofs.FormLemmas.{is_document-listing, is_listing-with_build, is_listing-with_version, listing_of}
use Rattle.mvn_doc.proofs.PickedForm.{artifact_form, entry_in_fits, snapshot_form}

-- ---- what is listed one after another keeps the form
with_each_version : (l : Listing) (vs : List (List ℕ)) → list_all is_version_directory vs ≡ true → is_listing l ≡ true → is_listing (fold with_version l vs) ≡ true
with_each_version l [] h g = g
with_each_version l (v ∷ vs) h g =
    with_each_version (with_version l v) vs (second (is_version_directory v) (list_all is_version_directory vs) h)
    (is_listing-with_version l v (first (is_version_directory v) (list_all is_version_directory vs) h) g)

with_each_build : (l : Listing) (es : List Entry) → list_all is_entry es ≡ true → is_listing l ≡ true → is_listing (fold with_build l es) ≡ true
with_each_build l [] h g = g
with_each_build l (e ∷ es) h g =
    with_each_build (with_build l e) es (second (is_entry e) (list_all is_entry es) h)
    (is_listing-with_build l e (first (is_entry e) (list_all is_entry es) h) g)

-- ---- what is picked fits
versions_fit : (ps : List Placed) → list_all is_version_directory (versions_in ps) ≡ true
versions_fit [] = refl
versions_fit (p ∷ ps) =
    let rest = filter (λ (q : Placed). is_at q.place Version && is_version_directory q.text) ps in
    let test = is_at p.place Version && is_version_directory p.text in
    elim test as (λ b. test ≡ b → list_all is_version_directory (map (λ (q : Placed). q.text) (if b then p ∷ rest else rest)) ≡ true) [
      | true ↦ λ e. both (is_version_directory p.text) (list_all is_version_directory (versions_in ps)) (second (is_at p.place Version) (is_version_directory p.text) e) (versions_fit ps)
      | false ↦ λ _. versions_fit ps
    ] refl

onto_fits : (e : Option Entry) (es : List Entry) → is_fit is_entry e ≡ true → list_all is_entry es ≡ true → list_all is_entry (onto e es) ≡ true
onto_fits None es g h = h
onto_fits (Some e) es g h = both (is_entry e) (list_all is_entry es) g h

entries_fit : (ps : List Placed) → list_all is_entry (entries_in ps) ≡ true
entries_fit [] = refl
entries_fit (p ∷ ps) =
    elim (is_at p.place SnapshotVersion) as (λ b. list_all is_entry (if b then onto (entry_in (section ps)) (entries_in ps) else entries_in ps) ≡ true) [
      | true ↦ onto_fits (entry_in (section ps)) (entries_in ps) (entry_in_fits (section ps)) (entries_fit ps)
      | false ↦ entries_fit ps
    ]

-- ---- the whole
whole_fits : (ps : List Placed) (b : Option (List ℕ)) → base_in ps ≡ b
    → is_document (record { group = group_in ps; artifact = artifact_in ps; listing = listing_in b ps }) ≡ true
whole_fits ps None e =
    let start : Document = record { group = group_in ps; artifact = artifact_in ps; listing = Artifact [] (moment_in ps) } in
    let form = artifact_form ps (group_in ps) (artifact_in ps) [] (moment_in ps) refl refl refl refl in
    is_document-listing start (fold with_version start.listing (versions_in ps)) (with_each_version start.listing (versions_in ps) (versions_fit ps) (listing_of start form)) form
whole_fits ps (Some b) e =
    let start : Document = record { group = group_in ps; artifact = artifact_in ps; listing = Snapshot b (build_in ps) [] } in
    let form = snapshot_form ps (group_in ps) (artifact_in ps) b (build_in ps) [] refl refl e refl refl in
    is_document-listing start (fold with_build start.listing (entries_in ps)) (with_each_build start.listing (entries_in ps) (entries_fit ps) (listing_of start form)) form

abbrev value_or : Document → Result Document ℕ → Document
value_or other (Ok doc) = doc
value_or other (Err at) = other

from_outline : (d : Document) (r : Result (List Element) ℕ) → picked r ≡ Ok d → is_document d ≡ true
from_outline d (Err at) e = absurd cc
from_outline d (Ok es) e =
    let ps = placed [] es in
    let same : document_in ps ≡ d = ap (value_or d) e in
    subst (λ (x : Document). is_document x ≡ true) same (whole_fits ps (base_in ps) refl)

pub read_form : (text : List ℕ) (d : Document) → reading text ≡ Ok d → is_document d ≡ true
read_form text d e = from_outline d (outline (codes "metadata") text) e
