-- The elements of lines stand at the places of the lines.
use Rattle.std.proofs.Common.{◌≡◌, ℕ, suc, ◌-◌, List, [], ◌∷◌, ◌++◌, length, take, refl, sym, ap, ◌∙◌, arith, append_assoc, append-nil, take_at, take_all, take-take}
use Rattle.std.proofs.lemmas.List.{get_or_push, length_push}
use Rattle.std.proofs.lemmas.Option.{unwrap_or-slice_get}
use Rattle.xml_subset.specs.Element.{Element}
use Rattle.mvn_doc.specs.declared.place.Place.{Place}
use Rattle.mvn_doc.specs.declared.place.Place.TheVariants.{Outside, Metadata}
use Rattle.mvn_doc.specs.Place.{Placed, below, innermost, placed}
use Rattle.mvn_doc.proofs.LaidOut.{Lines, NoLines, Line, Block, placed_lines}
use Rattle.mvn_doc.proofs.LinesOutlined.{element_at, elements_of}

abbrev pub placed_at : Place → List ℕ → Placed
placed_at place text = record { place = place; text = text }

innermost_push : (around : List Place) (place : Place) → innermost (around ++ place ∷ []) ≡ place
innermost_push around place =
    let last = length (around ++ place ∷ []) - 1 in
    unwrap_or-slice_get (around ++ place ∷ []) last Outside
    ∙ get_or_push around place Outside last (omega (arith, length_push around place))

-- the elements around the next one at this level, where these are open
cut_around : (level : ℕ) (around opened : List Place) → take level opened ≡ around → take (suc level - 1) opened ≡ around
cut_around level around opened front =
    let same : suc level - 1 ≡ level = omega arith in
    ap (λ n. take n opened) same ∙ front

-- after an element inside, the elements around are the same
back_around : (level : ℕ) (around after : List Place) (place : Place) → length around ≡ level → take (suc level) after ≡ around ++ place ∷ [] → take level after ≡ around
back_around level around after place size is =
    sym (take-take level (suc level) after (omega arith)) ∙ ap (take level) is ∙ take_at around (place ∷ []) level size

-- the first element of a list, where these are open around it
first_placed : (level : ℕ) (around opened : List Place) (name text : List ℕ) (es : List Element) → take level opened ≡ around
    → placed opened (element_at (suc level) name text ∷ es) ≡ placed_at (below (innermost around) name) text ∷ placed (around ++ below (innermost around) name ∷ []) es
first_placed level around opened name text es front =
    ap (λ a. placed_at (below (innermost a) name) text ∷ placed (a ++ below (innermost a) name ∷ []) es) (cut_around level around opened front)

-- the elements of lines inside these elements, and what follows, which takes its place from the same elements around
pub placed_elements : (level : ℕ) (around opened : List Place) (ls : Lines) (rest : List Element) (tail : List Placed)
    → length around ≡ level → take level opened ≡ around → ((after : List Place) → take level after ≡ around → placed after rest ≡ tail)
    → placed opened (elements_of level ls ++ rest) ≡ placed_lines (innermost around) ls ++ tail
placed_elements level around opened NoLines rest tail size front next = next opened front
placed_elements level around opened (Line name value more) rest tail size front next =
    let place = below (innermost around) name in
    first_placed level around opened name value (elements_of level more ++ rest) front
    ∙ ap (λ ps. placed_at place value ∷ ps)
    (placed_elements level around (around ++ place ∷ []) more rest tail size (take_at around (place ∷ []) level size) next)
placed_elements level around opened (Block name inner more) rest tail size front next =
    let place = below (innermost around) name in
    let inside = around ++ place ∷ [] in
    let behind = placed_lines (innermost around) more in
    let longer : length inside ≡ suc level = omega (arith, length_push around place) in
    first_placed level around opened name [] ((elements_of (suc level) inner ++ elements_of level more) ++ rest) front
    ∙ ap (λ es. placed_at place [] ∷ placed inside es) (append_assoc (elements_of (suc level) inner) (elements_of level more) rest)
    ∙ ap (λ ps. placed_at place [] ∷ ps)
    (placed_elements (suc level) inside inside inner (elements_of level more ++ rest) (behind ++ tail) longer (take_all (suc level) inside (omega arith))
    (λ after is. placed_elements level around after more rest tail size (back_around level around after place size is) next)
    ∙ ap (λ p. placed_lines p inner ++ (behind ++ tail)) (innermost_push around place)
    ∙ sym (append_assoc (placed_lines place inner) behind tail))

-- the elements of lines inside the root
pub placed_inside : (ls : Lines) → placed (Metadata ∷ []) (elements_of 1 ls) ≡ placed_lines Metadata ls
placed_inside ls =
    ap (placed (Metadata ∷ [])) (sym (append-nil (elements_of 1 ls)))
    ∙ placed_elements 1 (Metadata ∷ []) (Metadata ∷ []) ls [] [] refl refl (λ after is. refl)
    ∙ append-nil (placed_lines Metadata ls)
