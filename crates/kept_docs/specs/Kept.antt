-- Documents that are kept by the paths of their directories.
use Rattle.std.specs.Prelude.{◌≡◌, ℕ, List, Option, Some, None}
use Rattle.std.specs.BTreeMap.{get_by_text}
use Rattle.std.specs.Option.{option_map}
use Rattle.mvn_coords.specs.Layout.{Directory, text_of_directory}
use Rattle.mvn_coords.specs.Path.{IsDirectory}
use Rattle.mvn_metadata.specs.Document.{Document}
use Rattle.repo_model.specs.Data.{Row}
use Rattle.repo_model.specs.Document.{document}
use Rattle.kept_docs.specs.declared.docs.Docs.{Docs}
use Rattle.written_docs.specs.declared.document.WrittenDoc.{WrittenDoc}

-- the document in a place, where there is one
abbrev pub document_in : Option WrittenDoc → Option Document
document_in place = option_map (λ kept. kept.doc) place

-- the place that a path has, if it has one
abbrev pub place_at : List ℕ → Docs → Option (Option WrittenDoc)
place_at text docs = get_by_text docs.map text

abbrev pub document_of_place : Option (Option WrittenDoc) → Option Document
document_of_place None = None
document_of_place (Some place) = document_in place

-- the document that is kept at a path
abbrev pub kept_at : List ℕ → Docs → Option Document
kept_at text docs = document_of_place (place_at text docs)

-- each path keeps the document that it had
abbrev pub AreSame : Docs → Docs → Type 0
AreSame docs others = (text : List ℕ) → kept_at text others ≡ kept_at text docs

-- each directory's document is kept under its path, and none where it has none
abbrev pub AreOf : Docs → List Row → Type 0
AreOf docs rows = (d : Directory) → IsDirectory d → kept_at (text_of_directory d) docs ≡ document d rows
