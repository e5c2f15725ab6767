-- How long the text of a document is when it is settled, and that a settled document is settled.
use native.Mathlib.Omega.{arith}
use Rattle.std.proofs.Common.{◌≡◌, ℕ, suc, ◌+◌, ◌≤◌, Bool, true, false, cond, List, [], ◌∷◌, ◌++◌, map, length, Option, Some, None, refl, ◌∙◌, ap}
use Rattle.std.specs.Prelude.{codes, filter, IfSome, ◌==◌, nat_lt}
use Rattle.std.specs.List.{flat_map}
use Rattle.std.specs.Option.{option_map}
use Rattle.std.proofs.lemmas.List.{length-append, length-map}
use Rattle.mvn_coords.specs.Layout.{Directory}
use Rattle.mvn_coords.specs.FileName.{BuildOf}
use Rattle.mvn_metadata.specs.declared.listing.Listing.{Listing}
use Rattle.mvn_metadata.specs.declared.listing.Listing.TheVariants.{Artifact, Snapshot}
use Rattle.mvn_metadata.specs.Document.{Document, settled, of_kind, dotted, is_of}
use Rattle.mvn_metadata.specs.Merge.{Entry}
use Rattle.mvn_metadata.specs.Written.{text, declaration, element, element_if, block, open_tag, close_tag, listing_lines, newest_lines, updated_line, snapshot_lines, entries_lines, entry_lines}

-- ---- elements and blocks
length-open : (name : List ℕ) → length (open_tag name) ≡ length name + 2
length-open name =
    let x : length (open_tag name) ≡ suc (length (name ++ 62 ∷ [])) = refl in
    let y : length (name ++ 62 ∷ []) ≡ length name + 1 = length-append name (62 ∷ []) in
    omega (arith, x, y)

length-close : (name : List ℕ) → length (close_tag name) ≡ length name + 3
length-close name =
    let x : length (close_tag name) ≡ suc (suc (length (name ++ 62 ∷ []))) = refl in
    let y : length (name ++ 62 ∷ []) ≡ length name + 1 = length-append name (62 ∷ []) in
    omega (arith, x, y)

length-element : (margin name value : List ℕ) → length (element margin name value) ≡ length margin + (length name + length name) + length value + 6
length-element margin name value =
    let h4 : length (element margin name value) ≡ length (margin ++ open_tag name ++ value ++ close_tag name) + 1 = length-append (margin ++ open_tag name ++ value ++ close_tag name) (10 ∷ []) in
    let h3 : length (margin ++ open_tag name ++ value ++ close_tag name) ≡ length (margin ++ open_tag name ++ value) + length (close_tag name) = length-append (margin ++ open_tag name ++ value) (close_tag name) in
    let h2 : length (margin ++ open_tag name ++ value) ≡ length (margin ++ open_tag name) + length (value) = length-append (margin ++ open_tag name) (value) in
    let h1 : length (margin ++ open_tag name) ≡ length (margin) + length (open_tag name) = length-append (margin) (open_tag name) in
    let o = length-open name in
    let e = length-close name in
    omega (arith, h1, h2, h3, h4, o, e)

length-block : (margin name lines : List ℕ) → length (block margin name lines) ≡ (length margin + length margin) + (length name + length name) + length lines + 7
length-block margin name lines =
    let b0 : length (block margin name lines) ≡ length (margin ++ open_tag name ++ 10 ∷ [] ++ lines) + length (margin ++ close_tag name ++ 10 ∷ []) = length-append ((margin ++ open_tag name ++ 10 ∷ []) ++ lines) (margin ++ close_tag name ++ 10 ∷ []) in
    let b1 : length (margin ++ open_tag name ++ 10 ∷ [] ++ lines) ≡ length (margin ++ open_tag name ++ 10 ∷ []) + length lines = length-append (margin ++ open_tag name ++ 10 ∷ []) lines in
    let h12 : length (margin ++ open_tag name ++ 10 ∷ []) ≡ length (margin ++ open_tag name) + 1 = length-append (margin ++ open_tag name) (10 ∷ []) in
    let h11 : length (margin ++ open_tag name) ≡ length (margin) + length (open_tag name) = length-append (margin) (open_tag name) in
    let h22 : length (margin ++ close_tag name ++ 10 ∷ []) ≡ length (margin ++ close_tag name) + 1 = length-append (margin ++ close_tag name) (10 ∷ []) in
    let h21 : length (margin ++ close_tag name) ≡ length (margin) + length (close_tag name) = length-append (margin) (close_tag name) in
    let o = length-open name in
    let e = length-close name in
    omega (arith, b0, b1, h11, h12, h21, h22, o, e)

-- ---- entries
flat-filter : (p : Entry → Bool) (es : List Entry) → length (flat_map entry_lines (filter p es)) ≤ length (flat_map entry_lines es)
flat-filter p [] = omega (arith)
flat-filter p (e ∷ es) =
    let rest = flat-filter p es in
    let whole = length-append (entry_lines e) (flat_map entry_lines es) in
    elim (p e)
    as (λ b. length (flat_map entry_lines (cond b (e ∷ filter p es) (filter p es))) ≤ length (flat_map entry_lines (e ∷ es))) [
      | true ↦ let some = length-append (entry_lines e) (flat_map entry_lines (filter p es)) in omega (arith, rest, whole, some)
      | false ↦ omega (arith, rest, whole)
    ]

fewer-lines : (fewer : List Entry) (e : Entry) (es : List Entry) → length (flat_map entry_lines fewer) ≤ length (flat_map entry_lines (e ∷ es))
    → length (entries_lines fewer) ≤ length (entries_lines (e ∷ es))
fewer-lines [] e es is = omega (arith)
fewer-lines (x ∷ xs) e es is =
    let a = length-block (codes "    ") (codes "snapshotVersions") (flat_map entry_lines (x ∷ xs)) in
    let b = length-block (codes "    ") (codes "snapshotVersions") (flat_map entry_lines (e ∷ es)) in
    omega (arith, is, a, b)

entries-filter : (p : Entry → Bool) (es : List Entry) → length (entries_lines (filter p es)) ≤ length (entries_lines es)
entries-filter p [] = omega (arith)
entries-filter p (e ∷ es) = fewer-lines (filter p (e ∷ es)) e es (flat-filter p (e ∷ es))

-- ---- what is listed
empty-artifact : length (listing_lines (Artifact [] None)) ≡ 31
empty-artifact = refl

length-snapshot : (base : List ℕ) (newest : Option BuildOf) (es : List Entry)
    → length (listing_lines (Snapshot base newest es))
    ≡ length base + length (newest_lines newest ++ updated_line (option_map (λ b. b.stamp) newest)) + length (entries_lines es) + 53
length-snapshot base newest es =
    let two : length (codes "  ") ≡ 2 = refl in
    let seven : length (codes "version") ≡ 7 = refl in
    let ten : length (codes "versioning") ≡ 10 = refl in
    let a : length (listing_lines (Snapshot base newest es)) ≡ length (element (codes "  ") (codes "version") base) + length (block (codes "  ") (codes "versioning") (snapshot_lines newest es)) =
    length-append (element (codes "  ") (codes "version") base) (block (codes "  ") (codes "versioning") (snapshot_lines newest es)) in
    let b = length-element (codes "  ") (codes "version") base in
    let c = length-block (codes "  ") (codes "versioning") (snapshot_lines newest es) in
    let d : length (snapshot_lines newest es) ≡ length (newest_lines newest ++ updated_line (option_map (λ b. b.stamp) newest)) + length (entries_lines es) = length-append (newest_lines newest ++ updated_line (option_map (λ b. b.stamp) newest)) (entries_lines es) in
    omega (arith, two, seven, ten, a, b, c, d)

listed-fits : (version : Option (List ℕ)) (l : Listing) → IfSome version (λ v. length v ≤ 1024) → length (listing_lines (of_kind version l)) ≤ length (listing_lines l) + 1100
listed-fits None (Artifact versions updated) is = omega (arith)
listed-fits None (Snapshot base newest es) is = omega (arith, empty-artifact)
listed-fits (Some v) (Artifact versions updated) is =
    let a = length-snapshot v None [] in
    omega (arith, a, is)
listed-fits (Some v) (Snapshot base newest es) is =
    let a = length-snapshot v newest (filter (is_of v) es) in
    let b = length-snapshot base newest es in
    let c = entries-filter (is_of v) es in
    omega (arith, a, b, c, is)

-- ---- the whole

length-parts : (front root g a l end : List ℕ)
    → length (front ++ root ++ 10 ∷ [] ++ g ++ a ++ l ++ end ++ 10 ∷ []) ≡ length front + length root + 1 + length g + length a + length l + length end + 1
length-parts front root g a l end =
    let h7 : length (front ++ root ++ 10 ∷ [] ++ g ++ a ++ l ++ end ++ 10 ∷ []) ≡ length (front ++ root ++ 10 ∷ [] ++ g ++ a ++ l ++ end) + 1 = length-append (front ++ root ++ 10 ∷ [] ++ g ++ a ++ l ++ end) (10 ∷ []) in
    let h6 : length (front ++ root ++ 10 ∷ [] ++ g ++ a ++ l ++ end) ≡ length (front ++ root ++ 10 ∷ [] ++ g ++ a ++ l) + length (end) = length-append (front ++ root ++ 10 ∷ [] ++ g ++ a ++ l) (end) in
    let h5 : length (front ++ root ++ 10 ∷ [] ++ g ++ a ++ l) ≡ length (front ++ root ++ 10 ∷ [] ++ g ++ a) + length (l) = length-append (front ++ root ++ 10 ∷ [] ++ g ++ a) (l) in
    let h4 : length (front ++ root ++ 10 ∷ [] ++ g ++ a) ≡ length (front ++ root ++ 10 ∷ [] ++ g) + length (a) = length-append (front ++ root ++ 10 ∷ [] ++ g) (a) in
    let h3 : length (front ++ root ++ 10 ∷ [] ++ g) ≡ length (front ++ root ++ 10 ∷ []) + length (g) = length-append (front ++ root ++ 10 ∷ []) (g) in
    let h2 : length (front ++ root ++ 10 ∷ []) ≡ length (front ++ root) + 1 = length-append (front ++ root) (10 ∷ []) in
    let h1 : length (front ++ root) ≡ length (front) + length (root) = length-append (front) (root) in
    omega (arith, h1, h2, h3, h4, h5, h6, h7)

group-fits : (group : List ℕ) → length group ≤ 1024 → length (element_if (codes "  ") (codes "groupId") (dotted group)) ≤ 1046
group-fits group is =
    elim (nat_lt 0 (length group))
    as (λ b. length (element_if (codes "  ") (codes "groupId") (cond b (Some (map (λ (b : ℕ). cond (b == 47) 46 b) group)) None)) ≤ 1046) [
      | true ↦
          let a = length-element (codes "  ") (codes "groupId") (map (λ (b : ℕ). cond (b == 47) 46 b) group) in
          let b = length-map group (λ (b : ℕ). cond (b == 47) 46 b) in
          omega (arith, a, b, is)
      | false ↦ omega (arith)
    ]

artifact-fits : (name : List ℕ) → length name ≤ 1024 → length (element (codes "  ") (codes "artifactId") name) ≤ 1052
artifact-fits name is = let a = length-element (codes "  ") (codes "artifactId") name in omega (arith, a, is)

sums : (old new front root g a l g' a' l' end : ℕ) → old ≡ front + root + 1 + g + a + l + end + 1 → new ≡ front + root + 1 + g' + a' + l' + end + 1
    → g' ≤ 1046 → a' ≤ 1052 → l' ≤ l + 1100 → new ≤ old + 4000
sums old new front root g a l g' a' l' end is is' gs az ls = omega (arith, is, is', gs, az, ls)

pub settled-fits : (d : Document) (dir : Directory) → length dir.group ≤ 1024 → length dir.artifact ≤ 1024 → IfSome dir.version (λ v. length v ≤ 1024)
    → length (text (settled d dir)) ≤ length (text d) + 4000
settled-fits d dir group artifact version =
    let old = length-parts declaration (codes "<metadata modelVersion=\"1.1.0\">") (element_if (codes "  ") (codes "groupId") d.group) (element_if (codes "  ") (codes "artifactId") d.artifact) (listing_lines d.listing) (close_tag (codes "metadata")) in
    let new = length-parts declaration (codes "<metadata modelVersion=\"1.1.0\">") (element_if (codes "  ") (codes "groupId") (dotted dir.group)) (element_if (codes "  ") (codes "artifactId") (Some dir.artifact)) (listing_lines (of_kind dir.version d.listing)) (close_tag (codes "metadata")) in
    let g = group-fits dir.group group in
    let a-fits : length (element_if (codes "  ") (codes "artifactId") (Some dir.artifact)) ≤ 1052 = artifact-fits dir.artifact artifact in
    let l = listed-fits dir.version d.listing version in
    sums (length (text d)) (length (text (settled d dir))) (length declaration) (length (codes "<metadata modelVersion=\"1.1.0\">"))
    (length (element_if (codes "  ") (codes "groupId") d.group)) (length (element_if (codes "  ") (codes "artifactId") d.artifact)) (length (listing_lines d.listing))
    (length (element_if (codes "  ") (codes "groupId") (dotted dir.group))) (length (element_if (codes "  ") (codes "artifactId") (Some dir.artifact))) (length (listing_lines (of_kind dir.version d.listing)))
    (length (close_tag (codes "metadata"))) old new g a-fits l

-- ---- settled again
filter-twice : {X : Type 0} (p : X → Bool) (xs : List X) → filter p (filter p xs) ≡ filter p xs
filter-twice p [] = refl
filter-twice p (x ∷ xs) =
    elim (p x)
    as (λ b. p x ≡ b → filter p (cond b (x ∷ filter p xs) (filter p xs)) ≡ cond b (x ∷ filter p xs) (filter p xs)) [
      | true ↦ λ is. ap (λ b. cond b (x ∷ filter p (filter p xs)) (filter p (filter p xs))) is ∙ ap (λ ys. x ∷ ys) (filter-twice p xs)
      | false ↦ λ is. filter-twice p xs
    ] refl

kind-twice : (version : Option (List ℕ)) (l : Listing) → of_kind version (of_kind version l) ≡ of_kind version l
kind-twice None (Artifact versions updated) = refl
kind-twice None (Snapshot base newest es) = refl
kind-twice (Some v) (Artifact versions updated) = refl
kind-twice (Some v) (Snapshot base newest es) = ap (λ xs. Snapshot v newest xs) (filter-twice (is_of v) es)

pub settled-twice : (d : Document) (dir : Directory) → settled (settled d dir) dir ≡ settled d dir
settled-twice d dir = ap (λ (l : Listing). record { group = dotted dir.group; artifact = Some dir.artifact; listing = l }) (kind-twice dir.version d.listing)
