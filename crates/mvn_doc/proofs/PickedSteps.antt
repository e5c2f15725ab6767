-- One element after another: what the first of them adds to what is picked, and cuts at `-`.
use Rattle.std.proofs.Common.{◌≡◌, ℕ, zero, suc, ◌+◌, ◌-◌, ◌<◌, ◌≤◌, add-one, true, false, ◌&&◌, ◌==◌, List, [], ◌∷◌, length, take, drop, map, filter, fold, get_or, refl, sym, ap, ◌∙◌, arith, Option, Some, None, if◌then◌else◌}
use Rattle.std.proofs.Math.Seq.{drop-cons, take-length}
use Rattle.std.proofs.lemmas.List.{drop_more, length-drop}
use Rattle.mvn_metadata.specs.declared.listing.Listing.{Listing}
use Rattle.mvn_doc.specs.declared.place.Place.TheVariants.{SnapshotVersion, Version}
use Rattle.mvn_metadata.specs.Document.{Document, with_build, with_version}
use Rattle.mvn_coords.specs.Segment.{is_version_directory}
use Rattle.mvn_metadata.specs.Merge.{Entry}
use Rattle.mvn_doc.specs.Picked.{cut_onto, entries_in, entry_in, last_cut, onto, section, versions_in}
use Rattle.mvn_doc.specs.Place.{Placed, is_at}

-- ---- versions
pub versions_onto : (l : Listing) (p : Placed) (ps : List Placed)
    → fold with_version (fold with_version l (versions_in (p ∷ []))) (versions_in ps) ≡ fold with_version l (versions_in (p ∷ ps))
versions_onto l p ps =
    elim (is_at p.place Version && is_version_directory p.text) as
    (λ b. fold with_version (fold with_version l (map (λ q. q.text) (if b then p ∷ [] else []))) (versions_in ps)
    ≡ fold with_version l (map (λ q. q.text) (if b then p ∷ filter (λ q. is_at q.place Version && is_version_directory q.text) ps else filter (λ q. is_at q.place Version && is_version_directory q.text) ps))) [
      | true ↦ refl
      | false ↦ refl
    ]

pub one_version : (l : Listing) (p : Placed) (v : List ℕ) → is_at p.place Version ≡ true → is_version_directory p.text ≡ true → v ≡ p.text
    → with_version l v ≡ fold with_version l (versions_in (p ∷ []))
one_version l p v here fits e = ap (with_version l) e ∙ sym (rw (here, fits) refl)

-- the version of one element, and then those of the ones that follow
pub version_step : (d e : Document) (p : Placed) (ps : List Placed)
    → e ≡ record d { listing = fold with_version d.listing (versions_in (p ∷ [])) }
    → record e { listing = fold with_version e.listing (versions_in ps) } ≡ record d { listing = fold with_version d.listing (versions_in (p ∷ ps)) }
version_step d e p ps made =
    ap (λ (f : Document). record f { listing = fold with_version f.listing (versions_in ps) }) made
    ∙ ap (λ l. record d { listing = l }) (versions_onto d.listing p ps)

pub no_version : (p : Placed) → is_at p.place Version ≡ false → versions_in (p ∷ []) ≡ []
no_version p there = rw there refl

pub misfit : (p : Placed) → is_at p.place Version ≡ true → is_version_directory p.text ≡ false → versions_in (p ∷ []) ≡ []
misfit p here fits = rw (here, fits) refl

-- ---- entries
pub entries_onto : (l : Listing) (e : Option Entry) (es : List Entry)
    → fold with_build (fold with_build l (onto e [])) es ≡ fold with_build l (onto e es)
entries_onto l None es = refl
entries_onto l (Some e) es = refl

pub entries_here : (p : Placed) (ps : List Placed) → is_at p.place SnapshotVersion ≡ true → entries_in (p ∷ ps) ≡ onto (entry_in (section ps)) (entries_in ps)
entries_here p ps e = rw e refl

pub entries_after : (p : Placed) (ps : List Placed) → is_at p.place SnapshotVersion ≡ false → entries_in (p ∷ ps) ≡ entries_in ps
entries_after p ps e = rw e refl

-- the entry of one element, and then those of the ones that follow
pub entry_step : (d e : Document) (p : Placed) (ps : List Placed) → is_at p.place SnapshotVersion ≡ true
    → e ≡ record d { listing = fold with_build d.listing (onto (entry_in (section ps)) []) }
    → record e { listing = fold with_build e.listing (entries_in ps) } ≡ record d { listing = fold with_build d.listing (entries_in (p ∷ ps)) }
entry_step d e p ps here made =
    ap (λ (f : Document). record f { listing = fold with_build f.listing (entries_in ps) }) made
    ∙ ap (λ l. record d { listing = l }) (entries_onto d.listing (entry_in (section ps)) (entries_in ps)
    ∙ ap (fold with_build d.listing) (sym (entries_here p ps here)))

pub other_step : (d e : Document) (p : Placed) (ps : List Placed) → is_at p.place SnapshotVersion ≡ false → e ≡ d
    → record e { listing = fold with_build e.listing (entries_in ps) } ≡ record d { listing = fold with_build d.listing (entries_in (p ∷ ps)) }
other_step d e p ps there made =
    ap (λ (f : Document). record f { listing = fold with_build f.listing (entries_in ps) }) made
    ∙ ap (λ es. record d { listing = fold with_build d.listing es }) (sym (entries_after p ps there))

-- the elements from a place on: the one there, and the rest
pub cut_off : {A : Type 0} (ps : List A) (i : ℕ) (p : A) → i < length ps → p ≡ get_or ps i p → drop i ps ≡ p ∷ drop (i + 1) ps
cut_off ps i p l e = drop_more ps i p l ∙ ap (λ q. q ∷ drop (i + 1) ps) (sym e)

pub taken_rest : {A : Type 0} (xs : List A) (n : ℕ) → take (length xs - n) (drop n xs) ≡ drop n xs
taken_rest xs n = ap (λ k. take k (drop n xs)) (sym (length-drop n xs)) ∙ take-length (drop n xs)

-- ---- the last `-`
pub cut_here : (b : ℕ) (bs : List ℕ) → (b == 45) ≡ true → last_cut bs ≡ None → last_cut (b ∷ bs) ≡ Some ([], bs)
cut_here b bs e n = rw n (rw e refl)

-- what stands before the place of the last `-` goes on
pub cut_at : (bs : List ℕ) (i : ℕ) → last_cut (drop i bs) ≡ Some ([], drop (suc i) bs) → i < length bs → last_cut bs ≡ Some (take i bs, drop (suc i) bs)
cut_at [] i e l = absurd (omega arith)
cut_at (b ∷ bs) zero e l = e
cut_at (b ∷ bs) (suc i) e l = ap (cut_onto b bs) (cut_at bs i e (omega arith))

found_at : (bs : List ℕ) (i : ℕ) → i < length bs → get_or bs i 0 ≡ 45 → last_cut (drop (suc i) bs) ≡ None → last_cut bs ≡ Some (take i bs, drop (suc i) bs)
found_at bs i l b n =
    cut_at bs i (ap last_cut (drop-cons bs i 0 l) ∙ ap (λ d. last_cut (d ∷ drop (suc i) bs)) b ∙ cut_here 45 (drop (suc i) bs) refl n) l

-- the byte before a place after which there is no `-`
pub found_cut : (bs : List ℕ) (i e : ℕ) → e ≡ i + 1 → e ≤ length bs → get_or bs i 0 ≡ 45 → last_cut (drop e bs) ≡ None
    → Some (take i bs, take (length bs - (i + 1)) (drop (i + 1) bs)) ≡ last_cut bs
found_cut bs i e s l b n =
    let rest = taken_rest bs (i + 1) in
    let next : e ≡ suc i = omega arith in
    let one : drop (i + 1) bs ≡ drop (suc i) bs = ap (λ k. drop k bs) (add-one i) in
    ap (λ r. Some (take i bs, r)) (rest ∙ one) ∙ sym (found_at bs i (omega arith) b (ap (λ k. last_cut (drop k bs)) (sym next) ∙ n))
