-- Which elements of a document laid out as lines are passed over in a search for those at one place.
use Rattle.std.proofs.Common.{◌≡◌, ℕ, ◌<◌, ◌≤◌, Bool, true, false, cond, not, ◌&&◌, List, [], ◌∷◌, ◌++◌, map, filter, find, Option, Some, None, option_map, refl, ap, ◌∙◌, arith}
use Rattle.std.specs.Prelude.{if◌then◌else◌, bytes_eq, codes}
use Rattle.std.specs.List.{list_all}
use Rattle.std.proofs.lemmas.Bool.{ne_eqb, not-true}
use Rattle.std.proofs.lemmas.List.Folds.{list_all-append}
use Rattle.std.proofs.lemmas.List.Sums.{take_while-cons}
use Rattle.mvn_doc.specs.declared.place.Place.{Place}
use Rattle.mvn_doc.specs.declared.place.Place.TheVariants.{Outside, Metadata, GroupId, ArtifactId, BaseVersion, Versioning, LastUpdated, Versions, Version, Snapshot, Timestamp, BuildNumber, SnapshotVersions, SnapshotVersion, Classifier, Extension, Value, Other}
use Rattle.mvn_metadata.specs.Document.{Document}
use Rattle.mvn_coords.specs.Segment.{is_version_directory}
use Rattle.mvn_doc.specs.Picked.{entries_in, entry_in, first_at, onto, section, versions_in}
use Rattle.mvn_doc.specs.Place.{Placed, below, is_at, place_number}
use Rattle.mvn_metadata.proofs.Bools.{both, first, second}
use Rattle.mvn_doc.proofs.LaidOut.{Lines, NoLines, Line, Block, line_if, lines_of, listing_inside, placed_lines, placed_of}

-- ---- places get greater from the outside to the inside
chosen_above : (n : ℕ) (b : Bool) (p q : Place) → n ≤ place_number p → n ≤ place_number q → n ≤ place_number (if b then p else q)
chosen_above n true p q g h = g
chosen_above n false p q g h = h

rises : (at : Place) (name : List ℕ) → place_number at ≤ place_number (below at name)
rises Outside name = omega arith
rises Metadata name =
    chosen_above 1 (bytes_eq name (codes "groupId")) GroupId _ (omega arith)
    (chosen_above 1 (bytes_eq name (codes "artifactId")) ArtifactId _ (omega arith)
    (chosen_above 1 (bytes_eq name (codes "version")) BaseVersion _ (omega arith)
    (chosen_above 1 (bytes_eq name (codes "versioning")) Versioning Other (omega arith) (omega arith))))
rises Versioning name =
    chosen_above 5 (bytes_eq name (codes "lastUpdated")) LastUpdated _ (omega arith)
    (chosen_above 5 (bytes_eq name (codes "versions")) Versions _ (omega arith)
    (chosen_above 5 (bytes_eq name (codes "snapshot")) Snapshot _ (omega arith)
    (chosen_above 5 (bytes_eq name (codes "snapshotVersions")) SnapshotVersions Other (omega arith) (omega arith))))
rises Versions name = chosen_above 7 (bytes_eq name (codes "version")) Version Other (omega arith) (omega arith)
rises Snapshot name =
    chosen_above 9 (bytes_eq name (codes "timestamp")) Timestamp _ (omega arith)
    (chosen_above 9 (bytes_eq name (codes "buildNumber")) BuildNumber Other (omega arith) (omega arith))
rises SnapshotVersions name = chosen_above 12 (bytes_eq name (codes "snapshotVersion")) SnapshotVersion Other (omega arith) (omega arith)
rises SnapshotVersion name =
    chosen_above 13 (bytes_eq name (codes "classifier")) Classifier _ (omega arith)
    (chosen_above 13 (bytes_eq name (codes "extension")) Extension _ (omega arith)
    (chosen_above 13 (bytes_eq name (codes "value")) Value Other (omega arith) (omega arith)))
rises GroupId name = omega arith
rises ArtifactId name = omega arith
rises BaseVersion name = omega arith
rises LastUpdated name = omega arith
rises Version name = omega arith
rises Timestamp name = omega arith
rises BuildNumber name = omega arith
rises Classifier name = omega arith
rises Extension name = omega arith
rises Value name = omega arith
rises Other name = omega arith

-- no element is at the place
abbrev pub lacks : Place → List Placed → Bool
lacks place ps = list_all (λ p. not (is_at p.place place)) ps

pub apart : (p q : Place) → place_number q < place_number p → is_at p q ≡ false
apart p q h = ne_eqb (place_number p) (place_number q) (λ e. omega arith)

pub lacks_inside : (place at : Place) (ls : Lines) → place_number place < place_number at → lacks place (placed_lines at ls) ≡ true
lacks_inside place at NoLines h = refl
lacks_inside place at (Line name value more) h =
    let deep : place_number place < place_number (below at name) = omega (arith, rises at name) in
    both (not (is_at (below at name) place)) (lacks place (placed_lines at more)) (ap not (apart (below at name) place deep)) (lacks_inside place at more h)
lacks_inside place at (Block name inner more) h =
    let deep : place_number place < place_number (below at name) = omega (arith, rises at name) in
    let inside = placed_lines (below at name) inner in
    let after = placed_lines at more in
    both (not (is_at (below at name) place)) (lacks place (inside ++ after)) (ap not (apart (below at name) place deep))
    (list_all-append (λ p. not (is_at p.place place)) inside after
    ∙ both (lacks place inside) (lacks place after) (lacks_inside place (below at name) inner deep) (lacks_inside place at more h))

-- ---- what sees only the elements at one place passes over the others
module _ {X : Type 0} (place : Place) (f : List Placed → X) (skips : (p : Placed) (ps : List Placed) → is_at p.place place ≡ false → f (p ∷ ps) ≡ f ps) where
  pub past_all : (xs ys : List Placed) → lacks place xs ≡ true → f (xs ++ ys) ≡ f ys
  past_all [] ys h = refl
  past_all (x ∷ xs) ys h =
      skips x (xs ++ ys) (not-true (is_at x.place place) (first (not (is_at x.place place)) (lacks place xs) h))
      ∙ past_all xs ys (second (not (is_at x.place place)) (lacks place xs) h)

  pub past_if : (at : Place) (name : List ℕ) (value : Option (List ℕ)) (more : Lines) → is_at (below at name) place ≡ false → f (placed_lines at (line_if name value more)) ≡ f (placed_lines at more)
  past_if at name None more h = refl
  past_if at name (Some value) more h = skips (record { place = below at name; text = value }) (placed_lines at more) h

  pub past_block : (at : Place) (name : List ℕ) (inner more : Lines) → place_number place < place_number (below at name) → f (placed_lines at (Block name inner more)) ≡ f (placed_lines at more)
  past_block at name inner more deep =
      skips (record { place = below at name; text = [] }) (placed_lines (below at name) inner ++ placed_lines at more) (apart (below at name) place deep)
      ∙ past_all (placed_lines (below at name) inner) (placed_lines at more) (lacks_inside place (below at name) inner deep)

  -- of a document, the elements before those that tell what it lists
  pub past_front : (d : Document) → is_at Metadata place ≡ false → is_at GroupId place ≡ false → is_at ArtifactId place ≡ false → f (placed_of d) ≡ f (placed_lines Metadata (listing_inside d.listing))
  past_front d m g a =
      skips (record { place = Metadata; text = [] }) (placed_lines Metadata (lines_of d)) m
      ∙ past_if Metadata (codes "groupId") d.group (line_if (codes "artifactId") d.artifact (listing_inside d.listing)) g
      ∙ past_if Metadata (codes "artifactId") d.artifact (listing_inside d.listing) a

pub first_skips : (place : Place) (p : Placed) (ps : List Placed) → is_at p.place place ≡ false → first_at place (p ∷ ps) ≡ first_at place ps
first_skips place p ps e =
    ap (λ b. option_map (λ (q : Placed). q.text) (cond b (Some p) (find (λ q. is_at q.place place) ps))) e

pub versions_skips : (p : Placed) (ps : List Placed) → is_at p.place Version ≡ false → versions_in (p ∷ ps) ≡ versions_in ps
versions_skips p ps e =
    let kept = filter (λ (q : Placed). is_at q.place Version && is_version_directory q.text) ps in
    ap (λ b. map (λ (q : Placed). q.text) (cond (b && is_version_directory p.text) (p ∷ kept) kept)) e

pub entries_skips : (p : Placed) (ps : List Placed) → is_at p.place SnapshotVersion ≡ false → entries_in (p ∷ ps) ≡ entries_in ps
entries_skips p ps e = ap (λ b. cond b (onto (entry_in (section ps)) (entries_in ps)) (entries_in ps)) e

-- ---- the first element at a place
pub found_if : (place at : Place) (name : List ℕ) (value : Option (List ℕ)) (more : Lines) → is_at (below at name) place ≡ true → first_at place (placed_lines at more) ≡ None → first_at place (placed_lines at (line_if name value more)) ≡ value
found_if place at name None more here none = none
found_if place at name (Some value) more here none =
    let p : Placed = record { place = below at name; text = value } in
    ap (λ b. option_map (λ (q : Placed). q.text) (cond b (Some p) (find (λ q. is_at q.place place) (placed_lines at more)))) here

-- ---- a section ends before the next `snapshotVersion`
section_more : (p : Placed) (ps : List Placed) → is_at p.place SnapshotVersion ≡ false → section (p ∷ ps) ≡ p ∷ section ps
section_more p ps e =
    take_while-cons (λ (q : Placed). not (is_at q.place SnapshotVersion)) p ps ∙ ap (λ b. cond (not b) (p ∷ section ps) []) e

pub section_ends : (xs ys : List Placed) → lacks SnapshotVersion xs ≡ true → section ys ≡ [] → section (xs ++ ys) ≡ xs
section_ends [] ys h end = end
section_ends (x ∷ xs) ys h end =
    section_more x (xs ++ ys) (not-true (is_at x.place SnapshotVersion) (first (not (is_at x.place SnapshotVersion)) (lacks SnapshotVersion xs) h))
    ∙ ap (λ ps. x ∷ ps) (section_ends xs ys (second (not (is_at x.place SnapshotVersion)) (lacks SnapshotVersion xs) h) end)
