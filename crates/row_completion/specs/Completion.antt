-- Recorded rows that lack SHA-256 and SHA-512, and what they are once these are recorded (FIPS 180-4, sections 6.2 and 6.4).
use Rattle.std.specs.Prelude.{◌≡◌, true, IsTrue, List, [], ◌∷◌, Option, Some, None}
use Rattle.mvn_digest.specs.Digests.{further_in}
use Rattle.mvn_digest.specs.declared.known.Further.{Further}
use Rattle.outside.specs.Blobs.{Shelf}
use Rattle.repo_model.specs.Prints.{lacks_further, without_further}
use Rattle.repo_model.specs.Tables.{AreComplete, Tables, RecordedRow, digested}
use Rattle.repo_model.specs.declared.print.Print.{Print}
use Rattle.row_tables.specs.Items.{is_further}
use Rattle.blob_audit.specs.Damages.{IsFound, IsWhole}

-- further digests of the recorded content, which was found under the row's number
abbrev pub IsFurtherOf : Shelf → RecordedRow → Further → Type 0
IsFurtherOf shelf r further =
    (print : Print) × IsFound shelf r.row.blob.number (Some print) × IsWhole r.row.blob.print (Some print)
    × (further ≡ further_in print.digests) × IsTrue (is_further further)

-- a row with further digests
abbrev pub row_with : Further → RecordedRow → RecordedRow
row_with further r = record r { row = digested further r.row }

-- Rows of which some that lacked their further digests have them, and which are the same else.
pub data AreDigested (shelf : Shelf) : List RecordedRow → List RecordedRow → Type 0 where
  none : AreDigested shelf [] []
  same : (r : RecordedRow) (old new : List RecordedRow) → AreDigested shelf old new → AreDigested shelf (r ∷ old) (r ∷ new)
  given : (r : RecordedRow) (further : Further) (old new : List RecordedRow) → lacks_further r.row.blob.print ≡ true → IsFurtherOf shelf r further
      → AreDigested shelf old new → AreDigested shelf (r ∷ old) (row_with further r ∷ new)

pub record IsDigested (shelf : Shelf) (old new : Tables) : Type 0 where
  pub hosted : AreDigested shelf old.hosted new.hosted
  pub cached : AreDigested shelf old.cached new.cached
  pub documents : new.documents ≡ old.documents
  pub sessions : new.sessions ≡ old.sessions

-- the same of tables that are told, or not told
abbrev pub IsDigestedWhereTold : Shelf → Option Tables → Option Tables → Type 0
IsDigestedWhereTold shelf None new = new ≡ None
IsDigestedWhereTold shelf (Some old) new = (t : Tables) × (new ≡ Some t) × IsDigested shelf old t

-- all rows have all digests
pub record IsComplete (t : Tables) : Type 0 where
  pub hosted : AreComplete t.hosted
  pub cached : AreComplete t.cached

-- a row without its further digests
abbrev pub bare_row : RecordedRow → RecordedRow
bare_row r = record r { row = record r.row { blob = record r.row.blob { print = without_further r.row.blob.print } } }
