-- The elements of a tree stand at the places that the tree says, and a text is read as the document of its tree.
use Rattle.std.proofs.Common.{◌≡◌, ℕ, suc, ◌-◌, List, [], ◌∷◌, ◌++◌, length, take, Result, Ok, Err, refl, sym, ap, ◌∙◌, arith, append_assoc, append-nil, take_at, take_all, take-take}
use Rattle.std.specs.Prelude.{codes}
use Rattle.std.proofs.lemmas.List.{get_or_push, length_push}
use Rattle.std.proofs.lemmas.Option.{unwrap_or-slice_get}
use Rattle.xml_subset.specs.Content.{Content, Nothing, Data, Reference, Remark, Leaf, Node, Writes, data_of, outlined}
use Rattle.xml_subset.specs.Cut.{trimmed}
use Rattle.xml_subset.specs.Document.{outline}
use Rattle.xml_subset.specs.Element.{Element}
use Rattle.xml_subset.proofs.Parsing.{read_is_written, written_is_read}
use Rattle.mvn_doc.specs.declared.place.Place.{Place}
use Rattle.mvn_doc.specs.declared.place.Place.TheVariants.{Outside}
use Rattle.mvn_metadata.specs.Document.{Document}
use Rattle.mvn_doc.specs.Picked.{document_in}
use Rattle.mvn_doc.specs.Place.{Placed, below, innermost, placed}
use Rattle.mvn_doc.specs.Reading.{picked, reading}
use Rattle.mvn_doc.specs.Tree.{placed_at, places}

abbrev element_at : ℕ → List ℕ → List ℕ → Element
element_at depth name text = record { depth = depth; name = name; text = text }

innermost_push : (around : List Place) (place : Place) → innermost (around ++ place ∷ []) ≡ place
innermost_push around place =
    let last = length (around ++ place ∷ []) - 1 in
    unwrap_or-slice_get (around ++ place ∷ []) last Outside
    ∙ get_or_push around place Outside last (omega (arith, length_push around place))

cut_around : (level : ℕ) (around opened : List Place) → take level opened ≡ around → take (suc level - 1) opened ≡ around
cut_around level around opened front =
    let same : suc level - 1 ≡ level = omega arith in
    ap (λ n. take n opened) same ∙ front

back_around : (level : ℕ) (around after : List Place) (place : Place) → length around ≡ level → take (suc level) after ≡ around ++ place ∷ [] → take level after ≡ around
back_around level around after place size is =
    sym (take-take level (suc level) after (omega arith)) ∙ ap (take level) is ∙ take_at around (place ∷ []) level size

first_placed : (level : ℕ) (around opened : List Place) (name text : List ℕ) (es : List Element) → take level opened ≡ around
    → placed opened (element_at (suc level) name text ∷ es) ≡ placed_at (below (innermost around) name) text ∷ placed (around ++ below (innermost around) name ∷ []) es
first_placed level around opened name text es front =
    ap (λ a. placed_at (below (innermost a) name) text ∷ placed (a ++ below (innermost a) name ∷ []) es) (cut_around level around opened front)

pub placed_content : (level : ℕ) (around opened : List Place) (c : Content) (rest : List Element) (tail : List Placed)
    → length around ≡ level → take level opened ≡ around → ((after : List Place) → take level after ≡ around → placed after rest ≡ tail)
    → placed opened (outlined level c ++ rest) ≡ places (innermost around) c ++ tail
placed_content level around opened Nothing rest tail size front next = next opened front
placed_content level around opened (Data bytes more) rest tail size front next = placed_content level around opened more rest tail size front next
placed_content level around opened (Reference c more) rest tail size front next = placed_content level around opened more rest tail size front next
placed_content level around opened (Remark more) rest tail size front next = placed_content level around opened more rest tail size front next
placed_content level around opened (Leaf name more) rest tail size front next =
    let place = below (innermost around) name in
    first_placed level around opened name [] (outlined level more ++ rest) front
    ∙ ap (λ ps. placed_at place [] ∷ ps)
    (placed_content level around (around ++ place ∷ []) more rest tail size (take_at around (place ∷ []) level size) next)
placed_content level around opened (Node name inner more) rest tail size front next =
    let place = below (innermost around) name in
    let own = trimmed (data_of inner) in
    let inside = around ++ place ∷ [] in
    let behind = places (innermost around) more in
    let longer : length inside ≡ suc level = omega (arith, length_push around place) in
    first_placed level around opened name own ((outlined (suc level) inner ++ outlined level more) ++ rest) front
    ∙ ap (λ es. placed_at place own ∷ placed inside es) (append_assoc (outlined (suc level) inner) (outlined level more) rest)
    ∙ ap (λ ps. placed_at place own ∷ ps)
    (placed_content (suc level) inside inside inner (outlined level more ++ rest) (behind ++ tail) longer (take_all (suc level) inside (omega arith))
    (λ after is. placed_content level around after more rest tail size (back_around level around after place size is) next)
    ∙ ap (λ p. places p inner ++ (behind ++ tail)) (innermost_push around place)
    ∙ sym (append_assoc (places place inner) behind tail))

pub placed_tree : (d : Content) → placed [] (outlined 0 d) ≡ places Outside d
placed_tree d =
    ap (placed []) (sym (append-nil (outlined 0 d)))
    ∙ placed_content 0 [] [] d [] [] refl refl (λ after is. refl)
    ∙ append-nil (places Outside d)

-- a text that writes a tree is read as the document of that tree
pub tree_read : (text : List ℕ) (d : Content) → Writes (codes "metadata") text d → reading text ≡ Ok (document_in (places Outside d))
tree_read text d w =
    ap picked (written_is_read (codes "metadata") text d w) ∙ ap (λ (ps : List Placed). Ok (document_in ps)) (placed_tree d)

abbrev value_or : Document → Result Document ℕ → Document
value_or other (Ok doc) = doc
value_or other (Err at) = other

from_outline : (text : List ℕ) (doc : Document) (r : Result (List Element) ℕ) → outline (codes "metadata") text ≡ r → picked r ≡ Ok doc
    → (d : Content) × Writes (codes "metadata") text d × (doc ≡ document_in (places Outside d))
from_outline text doc (Err at) is e = absurd cc
from_outline text doc (Ok es) is e =
    let tree = read_is_written (codes "metadata") text es is in
    (tree.0, tree.1, sym (ap (value_or doc) e) ∙ ap (λ (l : List Element). document_in (placed [] l)) tree.2 ∙ ap document_in (placed_tree tree.0))

-- a text that is read writes a tree, of which the document is
pub read_tree : (text : List ℕ) (doc : Document) → reading text ≡ Ok doc
    → (d : Content) × Writes (codes "metadata") text d × (doc ≡ document_in (places Outside d))
read_tree text doc e = from_outline text doc (outline (codes "metadata") text) refl e
