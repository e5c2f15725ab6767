-- Drafts with a file more, or with what the rows have.
use Rattle.std.proofs.Common.{◌≡◌, ℕ, true, false, cond, List, ◌∷◌, ◌++◌, Option, Some, None, unwrap_or, bytes_eq, refl, sym, ap, ◌∙◌, subst}
use Rattle.std.specs.Prelude.{IsSome, codes, is_some, Result, Ok}
use Rattle.std.proofs.lemmas.Slice.Eq.{bytes_eq-Decides}
use Rattle.mvn_coords.specs.FileName.{is_filled}
use Rattle.mvn_coords.specs.Kind.{kind}
use Rattle.mvn_coords.specs.Layout.{Coordinates, Directory, text_of_directory, text_of_document}
use Rattle.mvn_coords.specs.Path.{IsDirectory}
use Rattle.mvn_coords.specs.declared.fault.PathFault.{PathFault}
use Rattle.mvn_coords.specs.declared.kind.Kind.{Kind}
use Rattle.mvn_coords.specs.declared.kind.Kind.TheVariants.{Doc}
use Rattle.mvn_metadata.specs.Document.{Document, blank, settled}
use Rattle.repo_model.specs.Data.{Blob, Row}
use Rattle.repo_model.specs.Document.{document, with_coordinates}
use Rattle.repo_model.specs.Effect.{new_row}
use Rattle.repo_model.specs.Paths.{file_in, stands_in}
use Rattle.directory_rows.specs.Documents.{added}
use Rattle.kept_docs.specs.declared.docs.Docs.{Docs}
use Rattle.kept_docs.specs.declared.drafts.Drafts.{Drafts}
use Rattle.kept_docs.specs.Drafted.{AreRight, HasDraftMore, HasFileMore, HasWalked, IsDraftedAt, draft_at, drafted, with_file_of}
use Rattle.kept_docs.specs.Kept.{kept_at}
use Rattle.kept_docs.proofs.Homes.{added_once, added_row, artifact_document, at_one, is_home, version_document}
use Rattle.kept_docs.proofs.Texts.{no_document, same_directory}

-- ---- a test of two texts
differs : (a b : List ℕ) → bytes_eq a b ≡ false → a ≡ b → ⊥
differs a b off is = let wrong : false ≡ true = sym off ∙ (bytes_eq-Decides a b).1 is in absurd cc

-- directories whose documents are told apart have paths that differ
paths_differ : (d e : Directory) → bytes_eq (text_of_document d) (text_of_document e) ≡ false → text_of_directory d ≡ text_of_directory e → ⊥
paths_differ d e off is = differs (text_of_document d) (text_of_document e) off (ap (λ t. t ++ 47 ∷ codes "maven-metadata.xml") is)

-- ---- a file that does not stand in the directory
pub file_elsewhere : (dir : Directory) (c : Coordinates) (accepted : ℕ) (docs : List ℕ → Option Document) → IsDirectory dir → stands_in dir (Some c) ≡ false → HasFileMore (text_of_document dir) c accepted docs docs
file_elsewhere dir c accepted docs ruled none = λ d rule.
    let x = docs (text_of_directory d) in
    elim (bytes_eq (text_of_document d) (text_of_document dir)) as (λ b. bytes_eq (text_of_document d) (text_of_document dir) ≡ b → x ≡ cond b (with_file_of d c accepted x) x) [
      | true ↦ λ is.
          let one : d ≡ dir = same_directory d dir rule ruled ((bytes_eq-Decides (text_of_document d) (text_of_document dir)).0 is) in
          sym (ap (λ s. cond s (Some (let old = unwrap_or x (settled blank d) in record old { listing = with_coordinates accepted (Some c) old.listing })) x) (ap (λ e. stands_in e (Some c)) one ∙ none))
      | false ↦ λ no. refl
    ] refl

-- a path that is no document's
pub no_file_more : (path : List ℕ) (k : Result Kind PathFault) (c : Coordinates) (accepted : ℕ) (docs : List ℕ → Option Document) → k ≡ kind path → ((e : Directory) → k ≡ Ok (Doc e) → ⊥) → HasFileMore path c accepted docs docs
no_file_more path k c accepted docs is none = λ d rule.
    let x = docs (text_of_directory d) in
    sym (ap (λ b. cond b (with_file_of d c accepted x) x) (no_document path k is none d rule))

-- ---- a file that does
pub file_more : (dir : Directory) (c : Coordinates) (accepted : ℕ) (old new : List ℕ → Option Document) → IsDirectory dir
    → new (text_of_directory dir) ≡ with_file_of dir c accepted (old (text_of_directory dir))
    → ((text : List ℕ) → (text ≡ text_of_directory dir → ⊥) → new text ≡ old text) → HasFileMore (text_of_document dir) c accepted old new
file_more dir c accepted old new ruled here others = λ d rule.
    let F : Directory → Option Document → Option Document = λ e. with_file_of e c accepted in
    elim (bytes_eq (text_of_document d) (text_of_document dir)) as (λ b. bytes_eq (text_of_document d) (text_of_document dir) ≡ b → new (text_of_directory d) ≡ cond b (F d (old (text_of_directory d))) (old (text_of_directory d))) [
      | true ↦ λ is.
          let one : d ≡ dir = same_directory d dir rule ruled ((bytes_eq-Decides (text_of_document d) (text_of_document dir)).0 is) in
          subst (λ (e : Directory). new (text_of_directory e) ≡ F e (old (text_of_directory e))) (sym one) here
      | false ↦ λ no. others (text_of_directory d) (paths_differ d dir no)
    ] refl

pub draft_more : (dir : Directory) (c : Coordinates) (accepted : ℕ) (docs : Docs) (old mid new : Drafts) (doc after : Document) → IsDirectory dir → stands_in dir (Some c) ≡ true
    → doc ≡ unwrap_or (drafted (text_of_directory dir) docs old) (settled blank dir)
    → ((text : List ℕ) → (text ≡ text_of_directory dir → ⊥) → draft_at text mid ≡ draft_at text old)
    → after ≡ record doc { listing = with_coordinates accepted (Some c) doc.listing }
    → IsDraftedAt (text_of_directory dir) (Some after) mid new → HasDraftMore (text_of_document dir) c accepted docs old new
draft_more dir c accepted docs old mid new doc after ruled there taken others made put =
    let x : Option Document = drafted (text_of_directory dir) docs old in
    file_more dir c accepted (λ text. drafted text docs old) (λ text. drafted text docs new) ruled
    (ap (λ o. unwrap_or o (kept_at (text_of_directory dir) docs)) put.here
    ∙ ap Some (made ∙ ap (λ (k : Document). record k { listing = with_coordinates accepted (Some c) k.listing }) taken)
    ∙ sym (ap (λ s. cond s (Some (let was = unwrap_or x (settled blank dir) in record was { listing = with_coordinates accepted (Some c) was.listing })) x) there))
    (λ text apart. ap (λ o. unwrap_or o (kept_at text docs)) (put.others text apart ∙ others text apart))

-- a file that is added at its two documents
pub file_twice : (c : Coordinates) (accepted : ℕ) (old mid new : List ℕ → Option Document) (artifact version : List ℕ) → is_filled c.group ≡ true → artifact ≡ artifact_document c → version ≡ version_document c
    → HasFileMore artifact c accepted old mid → HasFileMore version c accepted mid new
    → (d : Directory) → IsDirectory d → new (text_of_directory d) ≡ with_file_of d c accepted (old (text_of_directory d))
file_twice c accepted old mid new artifact version filled at_artifact at_version one two d rule =
    let F : Option Document → Option Document = with_file_of d c accepted in
    let x : Option Document = old (text_of_directory d) in
    let y : Option Document = mid (text_of_directory d) in
    let text = text_of_document d in
    let first : y ≡ cond (bytes_eq text (artifact_document c)) (F x) x = one d rule ∙ ap (λ t. cond (bytes_eq text t) (F x) x) at_artifact in
    two d rule ∙ ap (λ t. cond (bytes_eq text t) (F y) y) at_version
    ∙ ap (λ z. cond (bytes_eq text (version_document c)) (F z) z) first
    ∙ added_once d c accepted x filled

-- ---- a row at a path of a file, or of none
pub row_more : (path : List ℕ) (c : Coordinates) (k : Result Kind PathFault) (accepted : ℕ) (old new : List ℕ → Option Document) → k ≡ kind path → file_in k ≡ Some c
    → ((d : Directory) → IsDirectory d → new (text_of_directory d) ≡ with_file_of d c accepted (old (text_of_directory d)))
    → (d : Directory) (blob : Blob) → IsDirectory d → new (text_of_directory d) ≡ added d (old (text_of_directory d)) (new_row path blob accepted)
row_more path c k accepted old new is names made d blob rule =
    made d rule ∙ added_row d c path blob accepted (old (text_of_directory d)) (ap file_in (sym is) ∙ names)

pub no_row_more : (path : List ℕ) (k : Result Kind PathFault) (accepted : ℕ) (docs : List ℕ → Option Document) → k ≡ kind path → file_in k ≡ None
    → (d : Directory) (blob : Blob) → IsDirectory d → docs (text_of_directory d) ≡ added d (docs (text_of_directory d)) (new_row path blob accepted)
no_row_more path k accepted docs is none d blob rule =
    let x = docs (text_of_directory d) in
    sym (ap (λ o. cond (stands_in d o) (Some (let old = unwrap_or x (settled blank d) in record old { listing = with_coordinates accepted o old.listing })) x) (ap file_in (sym is) ∙ none))

-- ---- what the rows have
some_same : {A : Type 0} (x y : A) → Some x ≡ Some y → x ≡ y
some_same x y h = cc

pub walked_before : (dir : Directory) (rows : List Row) (drafts : Drafts) → IsDirectory dir → AreRight drafts rows → IsSome (draft_at (text_of_directory dir) drafts) → HasWalked (text_of_document dir) rows drafts drafts
walked_before dir rows drafts ruled right some = record {
  right = right;
  kept = λ text is. is;
  here = λ d rule is.
      let one : d ≡ dir = same_directory d dir rule ruled ((bytes_eq-Decides (text_of_document d) (text_of_document dir)).0 is) in
      subst (λ (e : Directory). IsSome (draft_at (text_of_directory e) drafts)) (sym one) some;
}

pub walked_now : (dir : Directory) (rows : List Row) (old new : Drafts) (doc : Option Document) → IsDirectory dir → AreRight old rows → doc ≡ document dir rows → IsDraftedAt (text_of_directory dir) doc old new
    → HasWalked (text_of_document dir) rows old new
walked_now dir rows old new doc ruled right made put = record {
  right = λ d rule other is.
      elim (bytes_eq (text_of_document d) (text_of_document dir)) as (λ b. bytes_eq (text_of_document d) (text_of_document dir) ≡ b → other ≡ document d rows) [
        | true ↦ λ same.
            let one : d ≡ dir = same_directory d dir rule ruled ((bytes_eq-Decides (text_of_document d) (text_of_document dir)).0 same) in
            some_same other doc (sym is ∙ ap (λ (e : Directory). draft_at (text_of_directory e) new) one ∙ put.here) ∙ made ∙ ap (λ (e : Directory). document e rows) (sym one)
        | false ↦ λ no. right d rule other (sym (put.others (text_of_directory d) (paths_differ d dir no)) ∙ is)
      ] refl;
  kept = λ text some.
      elim (bytes_eq text (text_of_directory dir)) as (λ b. bytes_eq text (text_of_directory dir) ≡ b → IsSome (draft_at text new)) [
        | true ↦ λ same. ap is_some (ap (λ t. draft_at t new) ((bytes_eq-Decides text (text_of_directory dir)).0 same) ∙ put.here)
        | false ↦ λ no. ap is_some (put.others text (differs text (text_of_directory dir) no)) ∙ some
      ] refl;
  here = λ d rule is.
      let one : d ≡ dir = same_directory d dir rule ruled ((bytes_eq-Decides (text_of_document d) (text_of_document dir)).0 is) in
      ap is_some (ap (λ (e : Directory). draft_at (text_of_directory e) new) one ∙ put.here);
}

pub walked_nowhere : (path : List ℕ) (k : Result Kind PathFault) (rows : List Row) (drafts : Drafts) → k ≡ kind path → ((e : Directory) → k ≡ Ok (Doc e) → ⊥) → AreRight drafts rows → HasWalked path rows drafts drafts
walked_nowhere path k rows drafts is none right = record {
  right = right;
  kept = λ text some. some;
  here = λ d rule here. let wrong : false ≡ true = sym (no_document path k is none d rule) ∙ here in absurd cc;
}

-- both documents of a file are walked to
pub walked_twice : (c : Coordinates) (rows : List Row) (old mid new : Drafts) (artifact version : List ℕ) → is_filled c.group ≡ true → artifact ≡ artifact_document c → version ≡ version_document c
    → HasWalked artifact rows old mid → HasWalked version rows mid new
    → (d : Directory) → IsDirectory d → stands_in d (Some c) ≡ true → IsSome (draft_at (text_of_directory d) new)
walked_twice c rows old mid new artifact version filled at_artifact at_version one two d rule there =
    at_one d c filled (is_home d c there) (IsSome (draft_at (text_of_directory d) new))
    (λ is. two.kept (text_of_directory d) (one.here d rule (ap (bytes_eq (text_of_document d)) at_artifact ∙ is)))
    (λ is. two.here d rule (ap (bytes_eq (text_of_document d)) at_version ∙ is))
