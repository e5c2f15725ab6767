-- What a start finds of the blobs after a crash, where their store keeps what it acknowledged.
use Rattle.std.specs.Prelude.{◌≡◌, ℕ, false, List, [], Some, IfSome}
use Rattle.std.specs.List.{AllByRecursion}
use Rattle.std.specs.Option.{ForSome}
use Rattle.outside.specs.Blobs.{Shelf, bytes_at}
use Rattle.repo_model.specs.Command.{Command}
use Rattle.repo_model.specs.Data.{Blob, Row, Session, Staged}
use Rattle.repo_model.specs.History.{Entry}
use Rattle.repo_model.specs.State.{State, is_among}
use Rattle.repo_model.specs.Tables.{RecordedRow, recorded_at, Tables}
use Rattle.blob_audit.specs.Damages.{AreDamaged, IsWhole, print_of}
use Rattle.blob_audit.specs.Order.{all_rows}
use Rattle.crash_laws.specs.Handed.{handed}

-- The store was stopped when it told the first shelf, or later, and is found with the second: each blob that was acknowledged has its bytes,
-- but that those of some numbers may be there or not, as what was removed since. What was being stored then may be there or not.
abbrev pub KeepsOthers : List ℕ → Shelf → Shelf → Type 0
KeepsOthers gone acknowledged found =
    IfSome found.blobs (λ them. ForSome acknowledged.blobs (λ those. (n : ℕ) (bytes : List ℕ) → is_among n gone ≡ false → bytes_at n those ≡ Some bytes → bytes_at n them ≡ Some bytes))

-- bytes were acknowledged under the blob's number, of its fingerprint, as far as this is recorded
abbrev pub IsAcknowledged : Shelf → Blob → Type 0
IsAcknowledged shelf blob = (those : List (ℕ × List ℕ)) × (bytes : List ℕ) × (shelf.blobs ≡ Some those) × (bytes_at blob.number those ≡ Some bytes) × IsWhole blob.print (Some (print_of bytes))

-- each of these rows names a blob that was acknowledged, with the fingerprint that is recorded, as far as it is
abbrev pub IsStored : Shelf → RecordedRow → Type 0
IsStored shelf r = IsAcknowledged shelf r.row.blob

abbrev pub AreStored : Shelf → List RecordedRow → Type 0
AreStored shelf rows = AllByRecursion (IsStored shelf) rows

-- so does each file that these tables record
abbrev pub HasStored : Shelf → Tables → Type 0
HasStored shelf t = AreStored shelf (all_rows t)

-- and each file that a session stages
abbrev pub IsStagedStored : Shelf → Session → Type 0
IsStagedStored shelf one = AllByRecursion (λ (file : Staged). IsAcknowledged shelf file.blob) one.staged

abbrev pub AreStagedStored : Shelf → State → Type 0
AreStagedStored shelf s = AllByRecursion (IsStagedStored shelf) s.sessions

-- the blob that a command hands over, to be put, staged or landed, was acknowledged
abbrev pub HandsOver : Shelf → Command → Type 0
HandsOver shelf command = IfSome (handed command) (IsAcknowledged shelf)

abbrev pub AllHandOver : Shelf → List Entry → Type 0
AllHandOver shelf entries = AllByRecursion (λ (e : Entry). HandsOver shelf e.command) entries

-- each of these rows names another blob than these, and so does each that these tables record
abbrev pub NameOthers : List ℕ → List RecordedRow → Type 0
NameOthers numbers rows = AllByRecursion (λ (r : RecordedRow). is_among r.row.blob.number numbers ≡ false) rows

abbrev pub NamesNone : List ℕ → Tables → Type 0
NamesNone numbers t = NameOthers numbers (all_rows t)

-- A start over these tables finds no file damaged in a store that keeps what it acknowledged, but for some blobs.
abbrev pub IsWholeWithout : List ℕ → Shelf → Tables → Type 0
IsWholeWithout gone acknowledged t = (found : Shelf) → KeepsOthers gone acknowledged found → AreDamaged found (all_rows t) []

-- among these rows one of a path has the number and the fingerprint of this one
abbrev pub IsAmongRecorded : List ℕ → Row → List RecordedRow → Type 0
IsAmongRecorded repo row rows =
    (kept : Row) × (recorded_at repo row.path rows ≡ Some kept) × (kept.blob.number ≡ row.blob.number) × (kept.blob.print ≡ row.blob.print)

-- so are a file of a hosted repository, and one that a proxy keeps, recorded
abbrev pub IsRecordedAs : List ℕ → Row → Tables → Type 0
IsRecordedAs repo row t = IsAmongRecorded repo row t.hosted

abbrev pub IsCachedAs : List ℕ → Row → Tables → Type 0
IsCachedAs id row t = IsAmongRecorded id row t.cached
