-- The directories in which a file stands: its artifact's and its version's, told by the paths of their documents.
use Rattle.std.proofs.Common.{◌≡◌, ℕ, ◌+◌, Bool, true, false, cond, ◌&&◌, List, ◌∷◌, ◌++◌, length, length-append, Option, Some, None, unwrap_or, refl, sym, ap, ◌∙◌, arith, bytes_eq}
use Rattle.std.proofs.lemmas.Bool.{and_parts, false_from_ne_true}
use Rattle.std.proofs.lemmas.List.{append-nil}
use Rattle.std.proofs.lemmas.Slice.Eq.{bytes_eq-Decides}
use Rattle.std.specs.Prelude.{codes}
use Rattle.mvn_coords.specs.FileName.{is_filled}
use Rattle.mvn_coords.specs.Layout.{Coordinates, Directory, artifact_directory_of, below_group, text_of_document, version_directory_of, version_part}
use Rattle.mvn_metadata.specs.Document.{Document, blank, settled}
use Rattle.repo_model.specs.Data.{Blob}
use Rattle.repo_model.specs.Document.{with_coordinates}
use Rattle.repo_model.specs.Effect.{new_row}
use Rattle.repo_model.specs.Paths.{file_at, same_version, stands_in}
use Rattle.directory_rows.specs.Documents.{added}
use Rattle.kept_docs.specs.Drafted.{with_file_of}

abbrev pub below : List ℕ
below = 47 ∷ codes "maven-metadata.xml"

abbrev pub artifact_document : Coordinates → List ℕ
artifact_document c = artifact_directory_of c ++ below

abbrev pub version_document : Coordinates → List ℕ
version_document c = version_directory_of c ++ below

-- a file of a directory has its group and artifact, and its version where it has one
pub record IsHome (d : Directory) (c : Coordinates) : Type 0 where
  pub group : c.group ≡ d.group
  pub artifact : c.artifact ≡ d.artifact
  pub version : same_version d.version c.directory ≡ true

pub is_home : (d : Directory) (c : Coordinates) → stands_in d (Some c) ≡ true → IsHome d c
is_home d c there =
    let one = and_parts (bytes_eq c.group d.group) (bytes_eq c.artifact d.artifact && same_version d.version c.directory) there in
    let two = and_parts (bytes_eq c.artifact d.artifact) (same_version d.version c.directory) one.1 in
    record {
      group = (bytes_eq-Decides c.group d.group).0 one.0;
      artifact = (bytes_eq-Decides c.artifact d.artifact).0 two.0;
      version = two.1;
    }

text_of_home : (d : Directory) (c : Coordinates) → is_filled c.group ≡ true → IsHome d c → text_of_document d ≡ (artifact_directory_of c ++ version_part d.version) ++ below
text_of_home d c filled home =
    ap (λ g. (below_group g d.artifact ++ version_part d.version) ++ below) (sym home.group)
    ∙ ap (λ a. (below_group c.group a ++ version_part d.version) ++ below) (sym home.artifact)
    ∙ ap (λ b. (cond b (c.group ++ 47 ∷ c.artifact) c.artifact ++ version_part d.version) ++ below) filled

same : (a b : List ℕ) → a ≡ b → bytes_eq a b ≡ true
same a b is = (bytes_eq-Decides a b).1 is

other : (a b : List ℕ) → (length a ≡ length b → ⊥) → bytes_eq a b ≡ false
other a b apart = false_from_ne_true (bytes_eq a b) (λ is. apart (ap length ((bytes_eq-Decides a b).0 is)))

-- which of the two documents is the directory's
pub record IsAtOne (d : Directory) (c : Coordinates) (artifact version : Bool) : Type 0 where
  pub artifact_is : bytes_eq (text_of_document d) (artifact_document c) ≡ artifact
  pub version_is : bytes_eq (text_of_document d) (version_document c) ≡ version

at_artifact : (d : Directory) (c : Coordinates) → is_filled c.group ≡ true → IsHome d c → d.version ≡ None → IsAtOne d c true false
at_artifact d c filled home none =
    let text : text_of_document d ≡ artifact_document c = text_of_home d c filled home ∙ ap (λ v. (artifact_directory_of c ++ version_part v) ++ below) none ∙ ap (λ t. t ++ below) (append-nil (artifact_directory_of c)) in
    record {
      artifact_is = same (text_of_document d) (artifact_document c) text;
      version_is = other (text_of_document d) (version_document c)
          (λ is. omega (arith, sym (ap length text) ∙ is, length-append (artifact_directory_of c) below, length-append (version_directory_of c) below, length-append (artifact_directory_of c) (47 ∷ c.directory)));
    }

at_version : (d : Directory) (c : Coordinates) (v : List ℕ) → is_filled c.group ≡ true → IsHome d c → d.version ≡ Some v → IsAtOne d c false true
at_version d c v filled home some =
    let whole : v ≡ c.directory = (bytes_eq-Decides v c.directory).0 (sym (ap (λ o. same_version o c.directory) some) ∙ home.version) in
    let text : text_of_document d ≡ version_document c = text_of_home d c filled home ∙ ap (λ o. (artifact_directory_of c ++ version_part o) ++ below) some ∙ ap (λ w. (artifact_directory_of c ++ 47 ∷ w) ++ below) whole in
    record {
      artifact_is = other (text_of_document d) (artifact_document c)
          (λ is. omega (arith, sym (ap length text) ∙ is, length-append (artifact_directory_of c) below, length-append (version_directory_of c) below, length-append (artifact_directory_of c) (47 ∷ c.directory)));
      version_is = same (text_of_document d) (version_document c) text;
    }

-- what follows either way
pub at_one : (d : Directory) (c : Coordinates) → is_filled c.group ≡ true → IsHome d c → (P : Type 0) → (bytes_eq (text_of_document d) (artifact_document c) ≡ true → P)
    → (bytes_eq (text_of_document d) (version_document c) ≡ true → P) → P
at_one d c filled home P artifact version =
    elim d.version as (λ v. d.version ≡ v → P) [
      | None ↦ λ none. artifact (at_artifact d c filled home none).artifact_is
      | Some v ↦ λ some. version (at_version d c v filled home some).version_is
    ] refl

-- a file that is added at both documents is added once to that of each directory in which it stands
pub added_once : (d : Directory) (c : Coordinates) (accepted : ℕ) (doc : Option Document) → is_filled c.group ≡ true
    → (let f = with_file_of d c accepted in let once = cond (bytes_eq (text_of_document d) (artifact_document c)) (f doc) doc in
    cond (bytes_eq (text_of_document d) (version_document c)) (f once) once ≡ f doc)
added_once d c accepted doc filled =
    let f : Option Document → Option Document = with_file_of d c accepted in
    let two : Bool → Bool → Option Document = λ a b. cond b (f (cond a (f doc) doc)) (cond a (f doc) doc) in
    let by : (artifact version : Bool) → IsAtOne d c artifact version → two artifact version ≡ f doc → two (bytes_eq (text_of_document d) (artifact_document c)) (bytes_eq (text_of_document d) (version_document c)) ≡ f doc
    = λ artifact version at is. ap (λ a. two a (bytes_eq (text_of_document d) (version_document c))) at.artifact_is ∙ ap (two artifact) at.version_is ∙ is in
    elim (stands_in d (Some c)) as (λ s. stands_in d (Some c) ≡ s → two (bytes_eq (text_of_document d) (artifact_document c)) (bytes_eq (text_of_document d) (version_document c)) ≡ f doc) [
      | true ↦ λ is.
          let home = is_home d c is in
          elim d.version as (λ v. d.version ≡ v → two (bytes_eq (text_of_document d) (artifact_document c)) (bytes_eq (text_of_document d) (version_document c)) ≡ f doc) [
            | None ↦ λ none. by true false (at_artifact d c filled home none) refl
            | Some v ↦ λ some. by false true (at_version d c v filled home some) refl
          ] refl
      | false ↦ λ no.
          let keeps : (x : Option Document) → f x ≡ x = λ x.
          ap (λ s. cond s (Some (let old = unwrap_or x (settled blank d) in record old { listing = with_coordinates accepted (Some c) old.listing })) x) no in
          twice f keeps doc (bytes_eq (text_of_document d) (artifact_document c)) (bytes_eq (text_of_document d) (version_document c))
    ] refl
  where
    twice : (f : Option Document → Option Document) → ((x : Option Document) → f x ≡ x) → (x : Option Document) (a b : Bool) → cond b (f (cond a (f x) x)) (cond a (f x) x) ≡ f x
    twice f keeps x true true = keeps (f x)
    twice f keeps x true false = refl
    twice f keeps x false true = refl
    twice f keeps x false false = sym (keeps x)

-- a row at a file's path adds the file
pub added_row : (d : Directory) (c : Coordinates) (path : List ℕ) (blob : Blob) (accepted : ℕ) (doc : Option Document) → file_at path ≡ Some c → with_file_of d c accepted doc ≡ added d doc (new_row path blob accepted)
added_row d c path blob accepted doc is =
    ap (λ o. cond (stands_in d o) (Some (let old = unwrap_or doc (settled blank d) in record old { listing = with_coordinates accepted o old.listing })) doc) (sym is)
