-- The document of a text, as it is settled for the directory of a path.
use Rattle.std.proofs.Common.{◌≡◌, ℕ, Bool, cond, List, Some, None, Ok, sym, ◌∙◌, ap, bytes_eq}
use Rattle.mvn_coords.specs.Kind.{kind}
use Rattle.mvn_coords.specs.Layout.{Directory}
use Rattle.mvn_coords.specs.declared.kind.Kind.TheVariants.{Doc}
use Rattle.mvn_doc.specs.Reading.{reading}
use Rattle.mvn_metadata.specs.Document.{Document, settled}
use Rattle.mvn_metadata.specs.Written.{text}
use Rattle.row_tables.specs.Reading.{as_settled, kept_in}
use Rattle.row_tables.specs.Items.{directory_in, directory_at}

pub kept_is : (path written : List ℕ) (dir : Directory) (doc s : Document) (t : List ℕ) (b : Bool) → kind path ≡ Ok (Doc dir) → reading written ≡ Ok doc → s ≡ settled doc dir → t ≡ text s → bytes_eq t written ≡ b
    → kept_in (directory_at path) written ≡ cond b (Some s) None
kept_is path written dir doc s t b named read settles writes same =
    let test : bytes_eq (text (settled doc dir)) written ≡ b = ap (λ d. bytes_eq (text d) written) (sym settles) ∙ ap (λ l. bytes_eq l written) (sym writes) ∙ same in
    ap (λ r. kept_in (directory_in r) written) named ∙ ap (as_settled written dir) read
    ∙ ap (λ x. cond x (Some (settled doc dir)) None) test ∙ ap (λ d. cond b (Some d) None) (sym settles)
