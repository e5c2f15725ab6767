-- The content of lines has a plain spelling, and its elements are the lines.
use Rattle.std.proofs.Common.{◌≡◌, ℕ, zero, suc, Bool, true, false, ◌&&◌, List, [], ◌∷◌, ◌++◌, reverse, refl, ap, ◌∙◌, arith, append-nil}
use Rattle.std.specs.Prelude.{if◌then◌else◌}
use Rattle.std.specs.List.{list_all}
use Rattle.std.proofs.lemmas.Bool.Decides.{nat_tests}
use Rattle.std.proofs.lemmas.List.{reverse-reverse}
use Rattle.std.proofs.lemmas.List.Folds.{list_all-append}
use mathlib.Core.List.{reverse_aux}
use Rattle.mvn_coords.specs.Segment.{is_path_byte}
use Rattle.xml_subset.specs.Content.{Nothing, Data, data_of, is_within, outlined}
use Rattle.xml_subset.specs.Cut.{begins, is_white, trimmed, without_white}
use Rattle.xml_subset.specs.Element.{Element}
use Rattle.xml_subset.specs.Spelling.{is_name, is_plain}
use Rattle.xml_subset.specs.Token.{is_text_byte}
use Rattle.mvn_metadata.proofs.Bools.{both, first, second, list_all_weaker}
use Rattle.mvn_doc.proofs.LaidOut.{Lines, NoLines, Line, Block}
use Rattle.mvn_doc.proofs.LinesContent.{content}

-- one or more bytes of a path
abbrev pub is_line_value : List ℕ → Bool
is_line_value value = begins is_path_byte value && list_all is_path_byte value

-- names are names, values are values, and there are no more levels of elements
abbrev pub are_lines : ℕ → Lines → Bool
are_lines levels NoLines = true
are_lines zero (Line name value more) = false
are_lines (suc levels) (Line name value more) = is_name name && (is_line_value value && are_lines (suc levels) more)
are_lines zero (Block name inner more) = false
are_lines (suc levels) (Block name inner more) = is_name name && (are_lines levels inner && are_lines (suc levels) more)

-- the parts of a line and of a block that pass
record LinePasses (levels : ℕ) (name value : List ℕ) (more : Lines) : Type 0 where
  named : is_name name ≡ true
  filled : is_line_value value ≡ true
  behind : are_lines (suc levels) more ≡ true

line_parts : (levels : ℕ) (name value : List ℕ) (more : Lines) → are_lines (suc levels) (Line name value more) ≡ true → LinePasses levels name value more
line_parts levels name value more h =
    let rest = second (is_name name) (is_line_value value && are_lines (suc levels) more) h in
    record {
      named = first (is_name name) (is_line_value value && are_lines (suc levels) more) h;
      filled = first (is_line_value value) (are_lines (suc levels) more) rest;
      behind = second (is_line_value value) (are_lines (suc levels) more) rest;
    }

record BlockPasses (levels : ℕ) (name : List ℕ) (inner more : Lines) : Type 0 where
  named : is_name name ≡ true
  inside : are_lines levels inner ≡ true
  behind : are_lines (suc levels) more ≡ true

block_parts : (levels : ℕ) (name : List ℕ) (inner more : Lines) → are_lines (suc levels) (Block name inner more) ≡ true → BlockPasses levels name inner more
block_parts levels name inner more h =
    let rest = second (is_name name) (are_lines levels inner && are_lines (suc levels) more) h in
    record {
      named = first (is_name name) (are_lines levels inner && are_lines (suc levels) more) h;
      inside = first (are_lines levels inner) (are_lines (suc levels) more) rest;
      behind = second (are_lines levels inner) (are_lines (suc levels) more) rest;
    }

-- ---- bytes
path_text : (b : ℕ) → is_path_byte b ≡ true → is_text_byte b ≡ true
path_text b h = grind (arith, nat_tests)

path_filled : (b : ℕ) → is_path_byte b ≡ true → is_white b ≡ false
path_filled b h = grind (arith, nat_tests)

white_text : (b : ℕ) → is_white b ≡ true → is_text_byte b ≡ true
white_text b h = grind (arith, nat_tests)

begins_weaker : (p q : ℕ → Bool) (xs : List ℕ) → ((x : ℕ) → p x ≡ true → q x ≡ true) → begins p xs ≡ true → begins q xs ≡ true
begins_weaker p q [] w h = h
begins_weaker p q (x ∷ xs) w h = w x h

-- ---- the content has a plain spelling
plain_value : (value : List ℕ) → is_line_value value ≡ true → is_plain (Data value Nothing) ≡ true
plain_value value h =
    let starts = first (begins is_path_byte value) (list_all is_path_byte value) h in
    let each = second (begins is_path_byte value) (list_all is_path_byte value) h in
    both (begins is_text_byte value) (list_all is_text_byte value && true) (begins_weaker is_path_byte is_text_byte value path_text starts)
    (both (list_all is_text_byte value) true (list_all_weaker is_path_byte is_text_byte value path_text each) refl)

pub plain_content : (levels : ℕ) (margin last : List ℕ) (ls : Lines) → list_all is_white margin ≡ true → list_all is_white last ≡ true → are_lines levels ls ≡ true → is_plain (content margin last ls) ≡ true
plain_content levels margin last NoLines m l h =
    both (list_all is_text_byte last) true (list_all_weaker is_white is_text_byte last white_text l) refl
plain_content zero margin last (Line name value more) m l h = absurd cc
plain_content (suc levels) margin last (Line name value more) m l h =
    let p = line_parts levels name value more h in
    let behind = is_plain (content margin last more) in
    both (list_all is_text_byte margin) (is_name name && (is_plain (Data value Nothing) && behind)) (list_all_weaker is_white is_text_byte margin white_text m)
    (both (is_name name) (is_plain (Data value Nothing) && behind) p.named
    (both (is_plain (Data value Nothing)) behind (plain_value value p.filled) (plain_content (suc levels) margin last more m l p.behind)))
plain_content zero margin last (Block name inner more) m l h = absurd cc
plain_content (suc levels) margin last (Block name inner more) m l h =
    let p = block_parts levels name inner more h in
    let inside = is_plain (content (32 ∷ 32 ∷ margin) margin inner) in
    let behind = is_plain (content margin last more) in
    both (list_all is_text_byte margin) (is_name name && (inside && behind)) (list_all_weaker is_white is_text_byte margin white_text m)
    (both (is_name name) (inside && behind) p.named
    (both inside behind (plain_content levels (32 ∷ 32 ∷ margin) margin inner m m p.inside) (plain_content (suc levels) margin last more m l p.behind)))

pub within_content : (levels : ℕ) (margin last : List ℕ) (ls : Lines) → are_lines levels ls ≡ true → is_within levels (content margin last ls) ≡ true
within_content levels margin last NoLines h = refl
within_content zero margin last (Line name value more) h = absurd cc
within_content (suc levels) margin last (Line name value more) h =
    within_content (suc levels) margin last more (line_parts levels name value more h).behind
within_content zero margin last (Block name inner more) h = absurd cc
within_content (suc levels) margin last (Block name inner more) h =
    let p = block_parts levels name inner more h in
    both (is_within levels (content (32 ∷ 32 ∷ margin) margin inner)) (is_within (suc levels) (content margin last more))
    (within_content levels (32 ∷ 32 ∷ margin) margin inner p.inside) (within_content (suc levels) margin last more p.behind)

-- ---- white space at both ends
all_onto : (p : ℕ → Bool) (xs acc : List ℕ) → list_all p xs ≡ true → list_all p acc ≡ true → list_all p (reverse_aux xs acc) ≡ true
all_onto p [] acc h g = g
all_onto p (x ∷ xs) acc h g =
    all_onto p xs (x ∷ acc) (second (p x) (list_all p xs) h) (both (p x) (list_all p acc) (first (p x) (list_all p xs) h) g)

filled_kept : (xs : List ℕ) → list_all is_path_byte xs ≡ true → without_white xs ≡ xs
filled_kept [] h = refl
filled_kept (x ∷ xs) h =
    ap (λ b. if b then without_white xs else x ∷ xs) (path_filled x (first (is_path_byte x) (list_all is_path_byte xs) h))

trimmed_filled : (xs : List ℕ) → list_all is_path_byte xs ≡ true → trimmed xs ≡ xs
trimmed_filled xs h =
    ap (λ t. reverse (without_white (reverse t))) (filled_kept xs h)
    ∙ ap (λ t. reverse t) (filled_kept (reverse xs) (all_onto is_path_byte xs [] h refl)) ∙ reverse-reverse xs

white_gone : (xs : List ℕ) → list_all is_white xs ≡ true → without_white xs ≡ []
white_gone [] h = refl
white_gone (x ∷ xs) h =
    ap (λ b. if b then without_white xs else x ∷ xs) (first (is_white x) (list_all is_white xs) h)
    ∙ white_gone xs (second (is_white x) (list_all is_white xs) h)

trimmed_white : (xs : List ℕ) → list_all is_white xs ≡ true → trimmed xs ≡ []
trimmed_white xs h = ap (λ t. reverse (without_white (reverse t))) (white_gone xs h)

white_both : (xs ys : List ℕ) → list_all is_white xs ≡ true → list_all is_white ys ≡ true → list_all is_white (xs ++ ys) ≡ true
white_both xs ys g h = list_all-append is_white xs ys ∙ both (list_all is_white xs) (list_all is_white ys) g h

white_data : (margin last : List ℕ) (ls : Lines) → list_all is_white margin ≡ true → list_all is_white last ≡ true → list_all is_white (data_of (content margin last ls)) ≡ true
white_data margin last NoLines m l = white_both last [] l refl
white_data margin last (Line name value more) m l =
    white_both margin (data_of (content margin last more)) m (white_data margin last more m l)
white_data margin last (Block name inner more) m l =
    white_both margin (data_of (content margin last more)) m (white_data margin last more m l)

-- between elements there is white space alone
pub trimmed_data : (margin last : List ℕ) (ls : Lines) → list_all is_white margin ≡ true → list_all is_white last ≡ true → trimmed (data_of (content margin last ls)) ≡ []
trimmed_data margin last ls m l = trimmed_white (data_of (content margin last ls)) (white_data margin last ls m l)

-- ---- the elements of lines
abbrev pub element_at : ℕ → List ℕ → List ℕ → Element
element_at depth name text = record { depth = depth; name = name; text = text }

abbrev pub elements_of : ℕ → Lines → List Element
elements_of level NoLines = []
elements_of level (Line name value more) = element_at (suc level) name value ∷ elements_of level more
elements_of level (Block name inner more) =
    element_at (suc level) name [] ∷ (elements_of (suc level) inner ++ elements_of level more)

pub outlined_content : (levels level : ℕ) (margin last : List ℕ) (ls : Lines) → list_all is_white margin ≡ true → list_all is_white last ≡ true → are_lines levels ls ≡ true → outlined level (content margin last ls) ≡ elements_of level ls
outlined_content levels level margin last NoLines m l h = refl
outlined_content zero level margin last (Line name value more) m l h = absurd cc
outlined_content (suc levels) level margin last (Line name value more) m l h =
    let p = line_parts levels name value more h in
    let each = second (begins is_path_byte value) (list_all is_path_byte value) p.filled in
    ap (λ t. element_at (suc level) name t ∷ outlined level (content margin last more)) (ap trimmed (append-nil value) ∙ trimmed_filled value each)
    ∙ ap (λ es. element_at (suc level) name value ∷ es) (outlined_content (suc levels) level margin last more m l p.behind)
outlined_content zero level margin last (Block name inner more) m l h = absurd cc
outlined_content (suc levels) level margin last (Block name inner more) m l h =
    let p = block_parts levels name inner more h in
    let wider = 32 ∷ 32 ∷ margin in
    ap (λ t. element_at (suc level) name t ∷ (outlined (suc level) (content wider margin inner) ++ outlined level (content margin last more))) (trimmed_data wider margin inner m m)
    ∙ ap (λ es. element_at (suc level) name [] ∷ (es ++ outlined level (content margin last more))) (outlined_content levels (suc level) wider margin inner m m p.inside)
    ∙ ap (λ es. element_at (suc level) name [] ∷ (elements_of (suc level) inner ++ es)) (outlined_content (suc levels) level margin last more m l p.behind)
