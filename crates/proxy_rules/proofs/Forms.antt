-- What is recorded of what a proxy keeps makes a change.
use native.Mathlib.Omega.{arith}
use Rattle.std.proofs.Common.{◌≡◌, ℕ, ◌+◌, ◌<◌, ◌≤◌, Bool, true, false, cond, List, [], ◌∷◌, ◌++◌, length, Option, Some, None, Result, Ok, Err, refl, sym, ◌∙◌, ap, eqb, ltb, leb, length-append}
use Rattle.std.specs.Prelude.{IfSome, codes, is_some}
use Rattle.std.specs.Int.{w16, w32, w64, to_be_bytes}
use Rattle.std.proofs.lemmas.Bool.{and_from, and_parts, eqb-true, false≢true, le-leb, leb-true, ltb-false}
use Rattle.std.proofs.lemmas.Slice.Eq.{bytes_eq-Decides}
use Rattle.mvn_coords.proofs.Judged.{kind_long}
use Rattle.mvn_coords.specs.Kind.{kind}
use Rattle.mvn_coords.specs.Layout.{Directory, below_group, text_of_directory, text_of_document, version_part}
use Rattle.mvn_coords.specs.Path.{IsDirectory, parts_of}
use Rattle.mvn_coords.specs.Path.{Parts}
use Rattle.mvn_coords.specs.declared.fault.PathFault.{PathFault}
use Rattle.mvn_coords.specs.declared.fault.PathFault.TheVariants as fault
use Rattle.mvn_coords.specs.declared.kind.Kind.{Kind}
use Rattle.mvn_coords.specs.declared.kind.Kind.TheVariants.{Doc}
use Rattle.mvn_metadata.specs.Document.{Document, settled}
use Rattle.mvn_metadata.specs.Form.{is_document}
use Rattle.mvn_metadata.specs.Written.{text}
use Rattle.repo_model.specs.History.{latest_moment}
use Rattle.repo_model.specs.Prints.{recorded_print}
use Rattle.repo_model.specs.State.{number_end}
use Rattle.repo_model.specs.declared.item.Item.TheVariants.{CachedDoc, CachedFile}
use Rattle.repo_model.specs.declared.print.Print.{Print}
use Rattle.row_tables.specs.Items.{IsChange, directory_at, directory_in, document_bytes, is_count, is_file_path, is_id, is_item, is_kept_in, is_number, item_bytes, place_bytes, text_bytes}
use Rattle.ordered_rows.proofs.ChangeLemmas.{AreDigests, change-of, moment-so, put-short}

-- a file that is kept
pub file-change : (id path : List ℕ) (blob : ℕ) (print : Print) (now : ℕ) → is_id id ≡ true → is_file_path path ≡ true → is_number blob ≡ true → print.length < number_end → AreDigests print.digests
    → now ≤ latest_moment → IsChange (CachedFile id path blob (recorded_print print) now ∷ [])
file-change id path blob print now named file number short are late =
    let count : is_count print.length ≡ true = le-leb print.length 9223372036854775807 (omega (arith, short)) in
    let put = put-short id path named file blob print now number count are (moment-so now late) in
    change-of (CachedFile id path blob (recorded_print print) now ∷ []) (record { form = put.form; whole = put.whole; size = put.size }, tt) (omega arith)

-- what a directory's document is named by has at most 1,024 bytes, and so have its parts
doc-path : (path : List ℕ) (d : Directory) → kind path ≡ Ok (Doc d) → length path ≤ 1024
doc-path path d is =
    elim (eqb (length path) 0) as (λ b. eqb (length path) 0 ≡ b → length path ≤ 1024) [
      | true ↦ λ e. let none : length path ≡ 0 = eqb-true (length path) 0 e in omega (arith, none)
      | false ↦ λ e.
          elim (ltb 1024 (length path)) as (λ b. ltb 1024 (length path) ≡ b → length path ≤ 1024) [
            | true ↦ λ l. absurd (err-not (sym (kind_long path e l) ∙ is))
            | false ↦ λ l. ltb-false 1024 (length path) l
          ] refl
    ] refl
  where
    is_ok : Result Kind PathFault → Bool
    is_ok (Ok k) = true
    is_ok (Err f) = false

    err-not : Err fault.Long ≡ Ok (Doc d) → ⊥
    err-not h = false≢true (ap is_ok h)

ruled-short : (d : Directory) → IsDirectory d → length (text_of_document d) ≤ 1024
unfolding parts_of
ruled-short d rule =
    let path = text_of_document d in
    elim (eqb (length path) 0) as (λ b. eqb (length path) 0 ≡ b → length path ≤ 1024) [
      | true ↦ λ e. let none : length path ≡ 0 = eqb-true (length path) 0 e in omega (arith, none)
      | false ↦ λ e.
          elim (ltb 1024 (length path)) as (λ b. ltb 1024 (length path) ≡ b → length path ≤ 1024) [
            | true ↦ λ l. let long : parts_of path ≡ Err fault.Long = rw (e, l) refl in absurd (false≢true (ap is_fine (sym long ∙ rule)))
            | false ↦ λ l. ltb-false 1024 (length path) l
          ] refl
    ] refl
  where
    is_fine : Result Parts PathFault → Bool
    is_fine (Ok k) = true
    is_fine (Err f) = false

group-short : (group artifact : List ℕ) → length group ≤ length (below_group group artifact)
group-short group artifact =
    elim (ltb 0 (length group)) as (λ b. ltb 0 (length group) ≡ b → length group ≤ length (cond b (group ++ 47 ∷ artifact) artifact)) [
      | true ↦ λ h. omega (arith, length-append group (47 ∷ artifact))
      | false ↦ λ h. omega (arith, ltb-false 0 (length group) h)
    ] refl

artifact-short : (group artifact : List ℕ) → length artifact ≤ length (below_group group artifact)
artifact-short group artifact =
    elim (ltb 0 (length group)) as (λ b. length artifact ≤ length (cond b (group ++ 47 ∷ artifact) artifact)) [
      | true ↦ omega (arith, length-append group (47 ∷ artifact))
      | false ↦ omega arith
    ]

version-short : (version : Option (List ℕ)) → IfSome version (λ v. length v ≤ length (version_part version))
version-short None = tt
version-short (Some v) = omega arith

raised : (version : Option (List ℕ)) (n m : ℕ) → n ≤ m → IfSome version (λ v. length v ≤ n) → IfSome version (λ v. length v ≤ m)
raised None n m le h = h
raised (Some v) n m le h = omega (arith, le, h)

-- the parts of a directory that has a document
pub parts-short : (d : Directory) → IsDirectory d → (length d.group ≤ 1024) × (length d.artifact ≤ 1024) × IfSome d.version (λ v. length v ≤ 1024)
parts-short d rule =
    let whole = ruled-short d rule in
    let outer : length (text_of_document d) ≡ length (text_of_directory d) + length (47 ∷ codes "maven-metadata.xml") = length-append (text_of_directory d) (47 ∷ codes "maven-metadata.xml") in
    let inner : length (text_of_directory d) ≡ length (below_group d.group d.artifact) + length (version_part d.version) = length-append (below_group d.group d.artifact) (version_part d.version) in (
      omega (arith, whole, outer, inner, group-short d.group d.artifact),
      omega (arith, whole, outer, inner, artifact-short d.group d.artifact),
      raised d.version (length (version_part d.version)) 1024 (omega (arith, whole, outer, inner)) (version-short d.version),
    )

-- settling adds little, and is done once
abbrev pub IsSettledBriefly : Type 0
IsSettledBriefly = (d : Document) (directory : Directory) → length directory.group ≤ 1024 → length directory.artifact ≤ 1024 → IfSome directory.version (λ v. length v ≤ 1024)
    → length (text (settled d directory)) ≤ length (text d) + 4000

abbrev pub IsSettledOnce : Type 0
IsSettledOnce = (d : Document) (directory : Directory) → settled (settled d directory) directory ≡ settled d directory

-- a document that landed is one that may be recorded
pub landed-form : IsSettledBriefly → IsSettledOnce → (document : Document) (d : Directory) → IsDirectory d → is_document (settled document d) ≡ true → length (text document) ≤ 4000000
    → is_kept_in (Some d) (settled document d) ≡ true
landed-form settled-fits settled-twice document d rule form short =
    let parts = parts-short d rule in
    let new = settled document d in
    let same : text (settled new d) ≡ text new = ap text (settled-twice document d) in
    let size : length (text new) ≤ 4100000 = omega (arith, settled-fits document d parts.0 parts.1 parts.2, short) in
    and_from _ _ form (and_from _ _ ((bytes_eq-Decides (text (settled new d)) (text new)).1 same) (le-leb (length (text new)) 4100000 size))

-- a document that is kept
pub document-change : (id path : List ℕ) (checked : ℕ) (document : Document) (d : Directory) → is_id id ≡ true → kind path ≡ Ok (Doc d) → checked ≤ latest_moment → is_kept_in (Some d) document ≡ true
    → IsChange (CachedDoc id path checked document ∷ [])
document-change id path checked document d named is late form =
    let at : directory_at path ≡ Some d = ap directory_in is in
    let kept : is_kept_in (directory_at path) document ≡ true = ap (λ o. is_kept_in o document) at ∙ form in
    let size = leb-true (length (text document)) 4100000 (and_parts _ _ (and_parts _ _ form).1).1 in
    let item = CachedDoc id path checked document in
    let tail = to_be_bytes w64 checked ++ document_bytes document in
    record {
      form = and_from (is_item item) true (and_from _ _ named (and_from _ _ (ap is_some at) (and_from _ _ (moment-so checked late) kept))) refl;
      size = omega (
        arith,
        length-append (to_be_bytes w32 1) (item_bytes item ++ []),
        length-append (item_bytes item) [],
        length-append (place_bytes id path) tail,
        length-append (text_bytes id) (text_bytes path),
        length-append (to_be_bytes w16 (length id)) id,
        length-append (to_be_bytes w16 (length path)) path,
        length-append (to_be_bytes w64 checked) (document_bytes document),
        length-append (to_be_bytes w32 (length (text document))) (text document),
        id-size id named,
        doc-path path d is,
        size,
      );
    }
  where
    id-size : (name : List ℕ) → is_id name ≡ true → length name ≤ 64
    id-size name h = leb-true (length name) 64 (and_parts (leb (length name) 64) _ (and_parts (ltb 0 (length name)) _ h).1).0
