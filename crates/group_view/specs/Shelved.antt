-- Documents that a shelf keeps by the paths of their directories.
use Rattle.std.specs.Prelude.{◌≡◌, ℕ, List, Option}
use Rattle.std.specs.BTreeMap.{get_by_text}
use Rattle.std.specs.Option.{option_map}
use Rattle.mvn_metadata.specs.Document.{Document}
use Rattle.group_view.specs.declared.shelf.GroupShelf.{GroupShelf}
use Rattle.written_docs.specs.declared.document.WrittenDoc.{WrittenDoc}

-- the document that is kept at a path
abbrev pub shelved_at : List ℕ → GroupShelf → Option Document
shelved_at text shelf = option_map (λ (w : WrittenDoc). w.doc) (get_by_text shelf.map text)

-- each path has the document that it had
abbrev pub AreSame : GroupShelf → GroupShelf → Type 0
AreSame old new = (text : List ℕ) → shelved_at text new ≡ shelved_at text old
