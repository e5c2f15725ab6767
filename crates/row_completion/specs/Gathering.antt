-- The items that complete recorded files, one after another.
use Rattle.std.specs.Prelude.{◌≡◌, if◌then◌else◌, List, [], ◌∷◌, ◌++◌}
use Rattle.mvn_digest.specs.declared.known.Further.{Further}
use Rattle.outside.specs.Blobs.{Shelf}
use Rattle.repo_model.specs.Prints.{lacks_further}
use Rattle.repo_model.specs.declared.item.Item.{Item}
use Rattle.repo_model.specs.declared.item.Item.TheVariants.{Digested}
use Rattle.blob_audit.specs.Order.{File}
use Rattle.row_completion.specs.Completion.{IsFurtherOf}

-- what is to be recorded of a file with these further digests
abbrev pub items_of : File → Further → List Item
items_of f further = if lacks_further f.row.row.blob.print then Digested f.row.repo f.row.row.path further ∷ [] else []

-- these items are those of a file, after others
abbrev pub Adds : Shelf → File → List Item → List Item → Type 0
Adds shelf f old new = (further : Further) × IsFurtherOf shelf f.row further × (new ≡ old ++ items_of f further)

-- the items of some files, each with the digests of the content that was found
abbrev pub AreItemsOf : Shelf → List File → List Item → Type 0
AreItemsOf shelf [] items = items ≡ []
AreItemsOf shelf (f ∷ files) items =
    (further : Further) × (rest : List Item) × IsFurtherOf shelf f.row further × (items ≡ items_of f further ++ rest) × AreItemsOf shelf files rest
