-- Documents that are written, to take the places of those that are kept.
use Rattle.std.specs.Prelude.{◌≡◌, ℕ, if◌then◌else◌, bytes_eq, List, [], ◌∷◌, Option, Some, None, IsSome, unwrap_or, string_bytes}
use Rattle.std.specs.List.{AllByRecursion}
use Rattle.mvn_coords.specs.Layout.{Directory, text_of_directory}
use Rattle.mvn_coords.specs.Path.{IsDirectory}
use Rattle.mvn_metadata.specs.Document.{Document}
use Rattle.repo_model.specs.Data.{Row}
use Rattle.repo_model.specs.Document.{document}
use Rattle.kept_docs.specs.declared.docs.Docs.{Docs}
use Rattle.kept_docs.specs.declared.pages.Page.{Page}
use Rattle.kept_docs.specs.Kept.{document_in, kept_at, place_at}

-- what the first page of a path says: that it will have this document, or none
abbrev pub page_at : List ℕ → List Page → Option (Option Document)
page_at text [] = None
page_at text (page ∷ pages) = if bytes_eq text (string_bytes page.path) then Some (document_in page.kept) else page_at text pages

-- the document that a path will have
abbrev pub placed : List ℕ → Docs → List Page → Option Document
placed text docs pages = unwrap_or (page_at text pages) (kept_at text docs)

-- each page's path has a place
abbrev pub HasRoom : Docs → List Page → Type 0
HasRoom docs pages = AllByRecursion (λ (page : Page). IsSome (place_at (string_bytes page.path) docs)) pages

-- the documents of directories will be those of some rows
abbrev pub WillBeOf : Docs → List Page → List Row → Type 0
WillBeOf docs pages rows = (d : Directory) → IsDirectory d → placed (text_of_directory d) docs pages ≡ document d rows
