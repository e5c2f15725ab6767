-- Documents that are to be, beside those that are kept.
use Rattle.std.specs.Prelude.{◌≡◌, ℕ, if◌then◌else◌, bytes_eq, true, List, Option, Some, IsSome, unwrap_or}
use Rattle.std.specs.BTreeMap.{get_by_text}
use Rattle.mvn_coords.specs.Layout.{Coordinates, Directory, text_of_directory, text_of_document}
use Rattle.mvn_coords.specs.Path.{IsDirectory}
use Rattle.mvn_metadata.specs.Document.{Document, blank, settled}
use Rattle.repo_model.specs.Data.{Row}
use Rattle.repo_model.specs.Document.{document, with_coordinates}
use Rattle.repo_model.specs.Paths.{stands_in}
use Rattle.kept_docs.specs.declared.docs.Docs.{Docs}
use Rattle.kept_docs.specs.declared.drafts.Drafts.{Drafts}
use Rattle.kept_docs.specs.Kept.{kept_at}

-- what a draft says of a path: that it will have this document, or none
abbrev pub draft_at : List ℕ → Drafts → Option (Option Document)
draft_at text drafts = get_by_text drafts.map text

-- the document that a path will have
abbrev pub drafted : List ℕ → Docs → Drafts → Option Document
drafted text docs drafts = unwrap_or (draft_at text drafts) (kept_at text docs)

-- the documents of directories will be those of some rows
abbrev pub AreDrafted : Docs → Drafts → List Row → Type 0
AreDrafted docs drafts rows = (d : Directory) → IsDirectory d → drafted (text_of_directory d) docs drafts ≡ document d rows

-- the document of a directory with a file, accepted at a moment, where that stands in it
abbrev pub with_file_of : Directory → Coordinates → ℕ → Option Document → Option Document
with_file_of d c accepted doc =
    if stands_in d (Some c)
    then Some (let old = unwrap_or doc (settled blank d) in record old { listing = with_coordinates accepted (Some c) old.listing })
    else doc

-- documents by the paths of their directories: the one at this path has this file more, where that stands in its directory, and those at others are as they were
abbrev pub HasFileMore : List ℕ → Coordinates → ℕ → (List ℕ → Option Document) → (List ℕ → Option Document) → Type 0
HasFileMore document c accepted old new = (d : Directory) → IsDirectory d → new (text_of_directory d)
    ≡ (if bytes_eq (text_of_document d) document then with_file_of d c accepted (old (text_of_directory d)) else old (text_of_directory d))

-- the same of the documents that will be
abbrev pub HasDraftMore : List ℕ → Coordinates → ℕ → Docs → Drafts → Drafts → Type 0
HasDraftMore document c accepted docs old new = HasFileMore document c accepted (λ text. drafted text docs old) (λ text. drafted text docs new)

-- a path is drafted, and others are as they were
pub record IsDraftedAt (path : List ℕ) (doc : Option Document) (old new : Drafts) : Type 0 where
  pub here : draft_at path new ≡ Some doc
  pub others : (text : List ℕ) → (text ≡ path → ⊥) → draft_at text new ≡ draft_at text old

-- what is drafted of a directory is so by some rows
abbrev pub AreRight : Drafts → List Row → Type 0
AreRight drafts rows = (d : Directory) → IsDirectory d → (doc : Option Document) → draft_at (text_of_directory d) drafts ≡ Some doc → doc ≡ document d rows

-- what was drafted is so still
abbrev pub KeepsDrafts : Drafts → Drafts → Type 0
KeepsDrafts old new = (text : List ℕ) → IsSome (draft_at text old) → IsSome (draft_at text new)

-- the document at a path is drafted by some rows, where it is a directory's
pub record HasWalked (document : List ℕ) (rows : List Row) (old new : Drafts) : Type 0 where
  pub right : AreRight new rows
  pub kept : KeepsDrafts old new
  pub here : (d : Directory) → IsDirectory d → bytes_eq (text_of_document d) document ≡ true → IsSome (draft_at (text_of_directory d) new)
