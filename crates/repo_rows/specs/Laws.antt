-- What holds of all changes and their bytes.
use Rattle.std.specs.Prelude.{◌≡◌, ◌<◌, ℕ, List, ◌++◌, length, take, Ok, IsTrue, slice_index}
use Rattle.repo_model.specs.declared.item.Item.{Item}
use Rattle.row_tables.specs.Items.{IsChange, are_of, change_of}
use Rattle.row_tables.specs.declared.version.Version.{Version}
use Rattle.row_tables.specs.Reading.{taken}

-- what is written of items of a version is read again, whatever stands after it
abbrev pub ReadsAgain : Type 0
ReadsAgain = (version : Version) (items : List Item) (rest : List ℕ) → IsChange items → IsTrue (are_of version items)
    → taken (change_of version items ++ rest) ≡ Ok (items, length (change_of version items))

-- what is read is a change of a version, and was written so
abbrev pub WasWritten : Type 0
WasWritten = (bytes : List ℕ) (items : List Item) (size : ℕ) → ((i : ℕ) → slice_index bytes i < 256) → taken bytes ≡ Ok (items, size)
    → IsChange items × (version : Version) × IsTrue (are_of version items) × (take size bytes ≡ change_of version items) × (size ≡ length (change_of version items))
