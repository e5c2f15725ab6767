-- A written document is read as its elements, which stand at the places of its lines.
use Rattle.std.proofs.Common.{◌≡◌, ℕ, true, List, [], ◌∷◌, refl, ap, ◌∙◌, Ok}
use Rattle.std.specs.Prelude.{codes}
use Rattle.xml_subset.specs.Content.{Content, data_of, is_within, outlined}
use Rattle.xml_subset.specs.Cut.{trimmed}
use Rattle.xml_subset.specs.Document.{outline}
use Rattle.xml_subset.specs.Element.{Element}
use Rattle.xml_subset.specs.Spelling.{is_name, is_plain, is_value, spelled_document}
use Rattle.xml_subset.proofs.Spelled.{outline-spelled}
use Rattle.mvn_doc.specs.declared.place.Place.TheVariants.{Metadata}
use Rattle.mvn_metadata.specs.Document.{Document}
use Rattle.mvn_metadata.specs.Form.{is_document}
use Rattle.mvn_doc.specs.Place.{placed}
use Rattle.mvn_metadata.specs.Written.{text}
use Rattle.mvn_doc.proofs.LaidOut.{Lines, lines_of, placed_lines, placed_of}
use Rattle.mvn_doc.proofs.LinesContent.{content, text_spelled}
use Rattle.mvn_doc.proofs.LinesFit.{document_fits}
use Rattle.mvn_doc.proofs.LinesOutlined.{element_at, elements_of, outlined_content, plain_content, trimmed_data, within_content}
use Rattle.mvn_doc.proofs.LinesPlaced.{placed_at, placed_inside}

-- a text that is the plain spelling of a document, and what its content is read as
read_spelled : (root name value text : List ℕ) (inner : Content) (es : List Element) → text ≡ spelled_document root name value inner → is_name root ≡ true → is_name name ≡ true → is_value value ≡ true → is_plain inner ≡ true → is_within 31 inner ≡ true → trimmed (data_of inner) ≡ [] → outlined 1 inner ≡ es
    → outline root text ≡ Ok (element_at 1 root [] ∷ es)
read_spelled root name value text inner es is e f g plain within gone same =
    ap (outline root) is ∙ outline-spelled root name value inner e f g plain within
    ∙ ap (λ own. Ok (element_at 1 root own ∷ outlined 1 inner)) gone ∙ ap (λ all. Ok (element_at 1 root [] ∷ all)) same

-- the root stands at the outermost place
root_placed : (ls : Lines) → placed [] (element_at 1 (codes "metadata") [] ∷ elements_of 1 ls) ≡ placed_at Metadata [] ∷ placed_lines Metadata ls
root_placed ls = ap (λ ps. placed_at Metadata [] ∷ ps) (placed_inside ls)

pub outlined_again : (d : Document) → is_document d ≡ true → (es : List Element) × (outline (codes "metadata") (text d) ≡ Ok es) × (placed [] es ≡ placed_of d)
outlined_again d h =
    let ls = lines_of d in
    let margin = codes "  " in
    let fits = document_fits d h in (
      element_at 1 (codes "metadata") [] ∷ elements_of 1 ls,
      read_spelled (codes "metadata") (codes "modelVersion") (codes "1.1.0") (text d) (content margin [] ls) (elements_of 1 ls) (text_spelled d) refl refl refl
          (plain_content 31 margin [] ls refl refl fits) (within_content 31 margin [] ls fits)
          (trimmed_data margin [] ls refl refl) (outlined_content 31 1 margin [] ls refl refl fits),
      root_placed ls,
    )
