-- What a store has under the numbers of recorded files' blobs, beside what was recorded of them.
use Rattle.std.specs.Prelude.{◌≡◌, ℕ, List, [], ◌∷◌, ◌++◌, length, Option, Some, IfSome}
use Rattle.std.specs.Option.{option_map}
use Rattle.mvn_digest.specs.Digests.{digests_of}
use Rattle.outside.specs.Blobs.{Shelf, bytes_at}
use Rattle.repo_model.specs.Prints.{as_recorded, recorded_in}
use Rattle.repo_model.specs.Tables.{RecordedRow}
use Rattle.repo_model.specs.declared.print.Print.{Print}
use Rattle.blob_audit.specs.declared.damages.Damaged.{Damaged}

-- the fingerprint of a content
abbrev pub print_of : List ℕ → Print
print_of bytes = record { length = length bytes; digests = digests_of bytes }

-- what is found under a number: the fingerprint of the blob, or none where there is no blob, as far as the store tells its blobs
abbrev pub IsFound : Shelf → ℕ → Option Print → Type 0
IsFound shelf number found = IfSome shelf.blobs (λ them. found ≡ option_map print_of (bytes_at number them))

-- what is found is the recorded content: it has the recorded length and each digest that is recorded
abbrev pub IsWhole : Print → Option Print → Type 0
IsWhole recorded found = option_map (as_recorded recorded) found ≡ Some recorded

-- the file of a row whose blob is not the recorded one: another content was found, or none
abbrev pub damaged_row : RecordedRow → Option Print → Damaged
damaged_row r found = record { repo = r.repo; path = r.row.path; recorded = recorded_in r.row.blob.print; found = found }

-- of these rows the files of these are damaged, in their order, and no others
pub data AreDamaged (shelf : Shelf) : List RecordedRow → List Damaged → Type 0 where
  none : AreDamaged shelf [] []
  whole : (r : RecordedRow) (rows : List RecordedRow) (damages : List Damaged) (found : Option Print) → IsFound shelf r.row.blob.number found
      → IsWhole r.row.blob.print found → AreDamaged shelf rows damages → AreDamaged shelf (r ∷ rows) damages
  damaged : (r : RecordedRow) (rows : List RecordedRow) (damages : List Damaged) (found : Option Print) → IsFound shelf r.row.blob.number found
      → ¬ IsWhole r.row.blob.print found → AreDamaged shelf rows damages → AreDamaged shelf (r ∷ rows) (damaged_row r found ∷ damages)

-- of these rows the first damaged one has this damage
abbrev pub IsFirstDamaged : Shelf → List RecordedRow → Damaged → Type 0
IsFirstDamaged shelf rows damage =
    (front : List RecordedRow) × (r : RecordedRow) × (rest : List RecordedRow) × (rows ≡ front ++ r ∷ rest)
    × AreDamaged shelf front [] × AreDamaged shelf (r ∷ []) (damage ∷ [])
