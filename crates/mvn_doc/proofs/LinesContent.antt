-- Lines as the content of an element, and their text as its plain spelling.
use Rattle.std.proofs.Common.{◌≡◌, ℕ, List, [], ◌∷◌, ◌++◌, refl, sym, ap, ◌∙◌, append_assoc}
use Rattle.std.specs.Prelude.{codes}
use Rattle.xml_subset.specs.Content.{Content, Nothing, Data, Node}
use Rattle.xml_subset.specs.Spelling.{spelled, spelled_document}
use Rattle.mvn_metadata.specs.Document.{Document}
use Rattle.mvn_metadata.specs.Written.{block, close_tag, declaration, element, open_tag, text}
use Rattle.mvn_doc.proofs.LaidOut.{Lines, NoLines, Line, Block, lines_of, lines_text}
use Rattle.mvn_doc.proofs.TextLines.{text_lines}

-- the content of an element: a line feed and a margin before each line, and another margin before the close tag
abbrev pub content : List ℕ → List ℕ → Lines → Content
content margin last NoLines = Data (10 ∷ last) Nothing
content margin last (Line name value more) =
    Data (10 ∷ margin) (Node name (Data value Nothing) (content margin last more))
content margin last (Block name inner more) =
    Data (10 ∷ margin) (Node name (content (32 ∷ 32 ∷ margin) margin inner) (content margin last more))

five : (a b c d e rest : List ℕ) → a ++ b ++ c ++ d ++ e ++ rest ≡ a ++ (b ++ (c ++ (d ++ (e ++ rest))))
five a b c d e rest = simp append_assoc

seven : (a b c d e rest : List ℕ) → (a ++ b ++ c) ++ d ++ (a ++ e ++ c) ++ rest ≡ a ++ (b ++ (c ++ (d ++ (a ++ (e ++ (c ++ rest))))))
seven a b c d e rest = simp append_assoc

-- text after the tags of an element
open_after : (name rest : List ℕ) → open_tag name ++ rest ≡ 60 ∷ (name ++ 62 ∷ rest)
open_after name rest = ap (λ t. 60 ∷ t) (append_assoc name (62 ∷ []) rest)

close_after : (name rest : List ℕ) → close_tag name ++ rest ≡ 60 ∷ 47 ∷ (name ++ 62 ∷ rest)
close_after name rest = ap (λ t. 60 ∷ 47 ∷ t) (append_assoc name (62 ∷ []) rest)

element_after : (margin name value rest : List ℕ) → element margin name value ++ rest ≡ margin ++ 60 ∷ (name ++ 62 ∷ (value ++ 60 ∷ 47 ∷ (name ++ 62 ∷ 10 ∷ rest)))
element_after margin name value rest =
    five margin (open_tag name) value (close_tag name) (10 ∷ []) rest
    ∙ ap (λ t. margin ++ (open_tag name ++ (value ++ t))) (close_after name (10 ∷ rest))
    ∙ ap (λ t. margin ++ t) (open_after name (value ++ 60 ∷ 47 ∷ (name ++ 62 ∷ 10 ∷ rest)))

block_after : (margin name lines rest : List ℕ) → block margin name lines ++ rest ≡ margin ++ 60 ∷ (name ++ 62 ∷ 10 ∷ (lines ++ (margin ++ 60 ∷ 47 ∷ (name ++ 62 ∷ 10 ∷ rest))))
block_after margin name lines rest =
    seven margin (open_tag name) (10 ∷ []) lines (close_tag name) rest
    ∙ ap (λ t. margin ++ (open_tag name ++ 10 ∷ (lines ++ (margin ++ t)))) (close_after name (10 ∷ rest))
    ∙ ap (λ t. margin ++ t) (open_after name (10 ∷ (lines ++ (margin ++ 60 ∷ 47 ∷ (name ++ 62 ∷ 10 ∷ rest)))))

spelled_content : (margin last : List ℕ) (ls : Lines) (rest : List ℕ) → spelled (content margin last ls) rest ≡ 10 ∷ (lines_text margin ls ++ (last ++ rest))
spelled_content margin last NoLines rest = refl
spelled_content margin last (Line name value more) rest =
    let tail = lines_text margin more ++ (last ++ rest) in
    ap (λ t. 10 ∷ (margin ++ 60 ∷ (name ++ 62 ∷ (value ++ 60 ∷ 47 ∷ (name ++ 62 ∷ t))))) (spelled_content margin last more rest)
    ∙ ap (λ t. 10 ∷ t) (sym (element_after margin name value tail) ∙ sym (append_assoc (element margin name value) (lines_text margin more) (last ++ rest)))
spelled_content margin last (Block name inner more) rest =
    let wider = 32 ∷ 32 ∷ margin in
    let tail = lines_text margin more ++ (last ++ rest) in
    let whole = block margin name (lines_text wider inner) in
    ap (λ t. 10 ∷ (margin ++ 60 ∷ (name ++ 62 ∷ spelled (content wider margin inner) (60 ∷ 47 ∷ (name ++ 62 ∷ t))))) (spelled_content margin last more rest)
    ∙ ap (λ t. 10 ∷ (margin ++ 60 ∷ (name ++ 62 ∷ t))) (spelled_content wider margin inner (60 ∷ 47 ∷ (name ++ 62 ∷ 10 ∷ tail)))
    ∙ ap (λ t. 10 ∷ t) (sym (block_after margin name (lines_text wider inner) tail) ∙ sym (append_assoc whole (lines_text margin more) (last ++ rest)))

pub text_spelled : (d : Document) → text d ≡ spelled_document (codes "metadata") (codes "modelVersion") (codes "1.1.0") (content (codes "  ") [] (lines_of d))
text_spelled d =
    text_lines d
    ∙ ap (λ t. declaration ++ codes "<metadata modelVersion=\"1.1.0\">" ++ t)
    (sym (spelled_content (codes "  ") [] (lines_of d) (60 ∷ 47 ∷ (codes "metadata" ++ 62 ∷ 10 ∷ []))))
