-- A kept document: what is read was written so, and what was written so is read again.
use Rattle.std.proofs.Common.{◌≡◌, ℕ, ◌<◌, ◌^◌, Bool, true, false, cond, ◌&&◌, List, ◌++◌, length, Option, Some, None, Result, Ok, Err, refl, sym, ap, subst, ◌∙◌, append_assoc, arith}
use Rattle.std.specs.Prelude.{nat_le, ◌==◌, bytes_eq}
use Rattle.std.specs.Int.{w32, to_be_bytes}
use Rattle.std.proofs.lemmas.Bool.Decides.{nat_tests}
use Rattle.std.proofs.lemmas.Slice.Eq.{bytes_eq-Decides}
use Rattle.mvn_coords.specs.Kind.{kind, kind_of_parts, with_side}
use Rattle.mvn_coords.specs.FileName.{◌>>=◌ as ◌>>>◌}
use Rattle.mvn_coords.specs.Layout.{Directory, Named, file, document}
use Rattle.mvn_coords.specs.Path.{Parts, parts_of, IsDirectory}
use Rattle.mvn_coords.specs.declared.fault.PathFault.{PathFault}
use Rattle.mvn_coords.specs.declared.fault.Side.{Side}
use Rattle.mvn_coords.specs.declared.kind.Kind.{Kind}
use Rattle.mvn_coords.specs.declared.kind.Kind.TheVariants.{File, FileSide, Doc, DocSide}
use Rattle.mvn_coords.proofs.ExactPaths.{exact_path}
use Rattle.mvn_metadata.specs.Document.{Document, settled}
use Rattle.mvn_metadata.specs.Form.{is_document, is_listing}
use Rattle.mvn_metadata.specs.Written.{text}
use Rattle.mvn_metadata.proofs.FormLemmas.{is_document-settled}
use Rattle.mvn_doc.specs.Picked.{document_in}
use Rattle.mvn_doc.specs.Place.{Placed}
use Rattle.mvn_doc.specs.Reading.{picked, reading}
use Rattle.mvn_doc.proofs.PickedLemmas.{picked_again}
use Rattle.mvn_doc.proofs.PickedWhole.{read_form}
use Rattle.mvn_doc.proofs.TextOutlined.{outlined_again}
use Rattle.row_tables.specs.Items.{directory_in, directory_at, is_kept_in, is_kept_at, document_bytes}
use Rattle.row_tables.specs.Reading.{◌>>=◌, number_at, bytes_at, as_settled, kept_in, or_refused, written_at, document_at}
use Rattle.repo_rows.proofs.Ascii.{both}
use Rattle.repo_rows.proofs.FieldLaws.{IsBytes, bind_ok, IsField, wide32, number_takes, number_again, bytes_field}

-- a document is read back from its text
reading_again : (d : Document) → is_document d ≡ true → reading (text d) ≡ Ok d
reading_again d h =
    let read = outlined_again d h in
    ap picked read.1 ∙ ap (λ (ps : List Placed). Ok (document_in ps)) read.2 ∙ ap Ok (picked_again d h)

-- a path that names the document of a directory says that it is one
kind_is : (thing : Named) (side : Option Side) (dir : Directory) → with_side thing side ≡ Doc dir → (thing ≡ document dir) × (side ≡ None)
kind_is (file c) None dir is = absurd cc
kind_is (file c) (Some s) dir is = absurd cc
kind_is (document d) None dir is = let same : d ≡ dir = cc in (ap document same, refl)
kind_is (document d) (Some s) dir is = absurd cc

parts_are : (r : Result Parts PathFault) (dir : Directory) → (r >>> λ p. Ok (kind_of_parts p)) ≡ Ok (Doc dir) → r ≡ Ok (record { thing = document dir; side = None })
parts_are (Ok p) dir is =
    let named : kind_of_parts p ≡ Doc dir = cc in
    let them = kind_is p.thing p.side dir named in
    λ i. Ok (record { thing = them.0 i; side = them.1 i })
parts_are (Err e) dir is = absurd cc

directory_of_kind : (path : List ℕ) (dir : Directory) → kind path ≡ Ok (Doc dir) → IsDirectory dir
directory_of_kind path dir is = ap parts_of (exact_path path (Doc dir) is) ∙ parts_are (parts_of path) dir is

kind_of_directory : (r : Result Kind PathFault) (dir : Directory) → directory_in r ≡ Some dir → r ≡ Ok (Doc dir)
kind_of_directory (Err e) dir is = absurd cc
kind_of_directory (Ok (File c)) dir is = absurd cc
kind_of_directory (Ok (FileSide c s)) dir is = absurd cc
kind_of_directory (Ok (Doc d)) dir is = let same : d ≡ dir = cc in ap (λ x. Ok (Doc x)) same
kind_of_directory (Ok (DocSide d s)) dir is = absurd cc

is_directory : (path : List ℕ) (dir : Directory) → directory_at path ≡ Some dir → IsDirectory dir
is_directory path dir is = directory_of_kind path dir (kind_of_directory (kind path) dir is)

settled_form : (d : Document) (dir : Directory) → IsDirectory dir → is_document d ≡ true → is_document (settled d dir) ≡ true
settled_form d dir is form = is_document-settled d dir is (both _ (is_listing d.listing) form).1

equal_texts : (a b : List ℕ) → a ≡ b → bytes_eq a b ≡ true
equal_texts a b same = (bytes_eq-Decides a b).1 same

-- what was kept of a text is settled and written so
settled_text : (written : List ℕ) (dir : Directory) (r : Result Document ℕ) (d : Document) → IsDirectory dir → reading written ≡ r → as_settled written dir r ≡ Some d → nat_le (length written) 4100000 ≡ true
    → (written ≡ text d) × (is_kept_in (Some dir) d ≡ true)
settled_text written dir (Err at) d is read kept few = absurd cc
settled_text written dir (Ok doc) d is read kept few = by (bytes_eq (text (settled doc dir)) written) refl kept
  where
    by : (b : Bool) → bytes_eq (text (settled doc dir)) written ≡ b → cond b (Some (settled doc dir)) None ≡ Some d → (written ≡ text d) × (is_kept_in (Some dir) d ≡ true)
    by false test h = absurd cc
    by true test h =
        let same : settled doc dir ≡ d = cc in
        let says : text (settled doc dir) ≡ written = (bytes_eq-Decides (text (settled doc dir)) written).0 test in
        let spells : text d ≡ written = ap text (sym same) ∙ says in
        let form : is_document d ≡ true = ap is_document (sym same) ∙ settled_form doc dir is (read_form written doc read) in
        let again : Ok doc ≡ Ok d = sym read ∙ ap reading (sym spells) ∙ reading_again d form in
        let one : doc ≡ d = cc in
        let stays : text (settled d dir) ≡ text d = ap (λ e. text (settled e dir)) (sym one) ∙ ap text same in
        (sym spells, λ i. form i && (equal_texts (text (settled d dir)) (text d) stays i && (ap (λ l. nat_le (length l) 4100000) spells ∙ few) i))

kept_text : (path written : List ℕ) (o : Option Directory) (d : Document) → directory_at path ≡ o → kept_in o written ≡ Some d → nat_le (length written) 4100000 ≡ true → (written ≡ text d) × (is_kept_in o d ≡ true)
kept_text path written None d is kept few = absurd cc
kept_text path written (Some dir) d is kept few = settled_text written dir (reading written) d (is_directory path dir is) refl kept few

-- what is kept is kept again
settles_again : (path : List ℕ) (o : Option Directory) (d : Document) → directory_at path ≡ o → is_kept_in o d ≡ true → (kept_in o (text d) ≡ Some d) × (nat_le (length (text d)) 4100000 ≡ true)
settles_again path None d is kept = absurd cc
settles_again path (Some dir) d is kept =
    let parts = both (is_document d) _ kept in
    let more = both (bytes_eq (text (settled d dir)) (text d)) _ parts.1 in
    let same_text : text (settled d dir) ≡ text d = (bytes_eq-Decides (text (settled d dir)) (text d)).0 more.0 in
    let form = settled_form d dir (is_directory path dir is) parts.0 in
    let both_read : Ok (settled d dir) ≡ Ok d = sym (reading_again (settled d dir) form) ∙ ap reading same_text ∙ reading_again d parts.0 in
    let same : settled d dir ≡ d = cc in
    (ap (as_settled (text d) dir) (reading_again d parts.0) ∙ ap (λ b. cond b (Some (settled d dir)) None) more.0 ∙ ap Some same, more.1)

cond_ok : {A : Type 0} (b : Bool) (r : Result A ℕ) (e : ℕ) (y : A) → cond b r (Err e) ≡ Ok y → (b ≡ true) × (r ≡ Ok y)
cond_ok true r e y is = (refl, is)
cond_ok false r e y is = absurd cc

refused_ok : (left : ℕ) (rest : List ℕ) (o : Option Document) (x : Document × List ℕ) → or_refused left rest o ≡ Ok x → (o ≡ Some x.0) × (rest ≡ x.1)
refused_ok left rest None x is = absurd cc
refused_ok left rest (Some d) x is = let same : (d, rest) ≡ x = cc in (ap (λ (y : Document × List ℕ). Some y.0) same, ap (λ (y : Document × List ℕ). y.1) same)

abbrev shown : List ℕ → List ℕ → List ℕ × List ℕ → Result (Document × List ℕ) ℕ
shown path bytes t = cond (nat_le (length t.0) 4100000) (or_refused (length bytes) t.1 (kept_in (directory_at path) t.0)) (Err (length bytes))

-- what the text of a document was read from
record TakenText (path : List ℕ) (n : ℕ) (bytes : List ℕ) (x : Document × List ℕ) : Type 0 where
  pub size : n ≡ length (text x.0)
  pub parts : bytes ≡ text x.0 ++ x.1
  pub left : IsBytes x.1
  pub fits : is_kept_at path x.0 ≡ true

same_size : (n m : ℕ) → (n == m) ≡ true → m ≡ n
same_size n m is = grind (arith, nat_tests)

equal_sizes : (n : ℕ) → (n == n) ≡ true
equal_sizes n = grind (arith, nat_tests)

written_takes : (path : List ℕ) (n : ℕ) (bytes : List ℕ) (x : Document × List ℕ) → IsBytes bytes → written_at path n bytes ≡ Ok x → TakenText path n bytes x
unfolding written_at
written_takes path n bytes x are is =
    let a = bind_ok (bytes_at n bytes) (shown path bytes) x is in
    let t = a.0 in
    let f = (bytes_field n).takes bytes t are a.1 in
    let g = cond_ok (nat_le (length t.0) 4100000) _ (length bytes) x a.2 in
    let o = refused_ok (length bytes) t.1 (kept_in (directory_at path) t.0) x g.1 in
    let k = kept_text path t.0 (directory_at path) x.0 refl o.0 g.0 in
    record {
      size = same_size (length t.0) n f.fits ∙ ap length k.0;
      parts = f.parts ∙ (λ i. k.0 i ++ o.1 i);
      left = subst IsBytes o.1 f.left;
      fits = k.1;
    }

written_again : (path : List ℕ) (d : Document) (rest : List ℕ) → is_kept_at path d ≡ true → written_at path (length (text d)) (text d ++ rest) ≡ Ok (d, rest)
unfolding written_at
written_again path d rest is =
    let k = settles_again path (directory_at path) d refl is in
    ap (λ r. r >>= shown path (text d ++ rest)) ((bytes_field (length (text d))).again (text d) rest (equal_sizes (length (text d))))
    ∙ ap (λ b. cond b (or_refused (length (text d ++ rest)) rest (kept_in (directory_at path) (text d))) (Err (length (text d ++ rest)))) k.1
    ∙ ap (or_refused (length (text d ++ rest)) rest) k.0

few_bytes : (n : ℕ) → nat_le n 4100000 ≡ true → n < 2 ^ 32
few_bytes n is = grind (arith, nat_tests)

pub document_field : (path : List ℕ) → IsField document_bytes (is_kept_at path) (document_at path)
unfolding document_at
document_field path = record {
  takes = λ bytes x are is.
      let a = bind_ok (number_at w32 bytes) (λ n. written_at path n.0 n.1) x is in
      let h = number_takes w32 (2 ^ 32) wide32 bytes a.0 are a.1 in
      let t = written_takes path a.0.0 a.0.1 x h.1 a.2 in
      record {
        parts = h.0 ∙ (λ i. to_be_bytes w32 (t.size i) ++ t.parts i) ∙ sym (append_assoc (to_be_bytes w32 (length (text x.0))) (text x.0) x.1);
        left = t.left;
        fits = t.fits;
      };
  again = λ d rest is.
      let short = few_bytes (length (text d)) (settles_again path (directory_at path) d refl is).1 in
      ap (document_at path) (append_assoc (to_be_bytes w32 (length (text d))) (text d) rest)
      ∙ ap (λ r. r >>= λ n. written_at path n.0 n.1) (number_again w32 (2 ^ 32) wide32 (length (text d)) (text d ++ rest) short)
      ∙ written_again path d rest is;
}
