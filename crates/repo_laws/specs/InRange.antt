-- Tables whose numbers and moments are in range, and runs of the machine one after another over the same tables.
use Rattle.std.specs.Prelude.{◌≡◌, ◌⊎◌, ℕ, ◌<◌, ◌≤◌, List, [], ◌∷◌, Option, None, Some, IsTrue}
use Rattle.std.specs.List.{AllByRecursion}
use Rattle.mvn_digest.specs.declared.known.Further.{Further}
use Rattle.repo_model.specs.declared.item.Item.{Item}
use Rattle.repo_model.specs.declared.item.Item.TheVariants.{HostedPut, Faded, Relisted, Removed, CachedFile, CachedDoc, SessionOpened, SessionEnded, Digested}
use Rattle.repo_model.specs.declared.print.Print.{Print}
use Rattle.repo_model.specs.Data.{Blob, Row}
use Rattle.repo_model.specs.Prints.{lacks_further, with_further}
use Rattle.repo_model.specs.Settings.{Settings}
use Rattle.repo_model.specs.State.{State, number_end}
use Rattle.repo_model.specs.Tables.{Tables, RecordedRow, RecordedDocument, RecordedSession, digested}
use Rattle.repo_model.specs.History.{Entry, latest_moment, Legal}
use Rattle.repo_model.specs.Paths.{FadesRightly}
use Rattle.repo_laws.specs.Sound.{IsSound}
use Rattle.repo_laws.specs.Holds.{IsUpTo, StandsFor, with_items, told}
use Rattle.repo_laws.specs.Closed.{AnswersUpTo}

-- a row is recorded without bytes, its blob's number lies above 0 and below 2 ^ 63, and its moments are no later than the latest
abbrev pub IsRowInRange : RecordedRow → Type 0
IsRowInRange r = (r.row.blob.bytes ≡ None) × (0 < r.row.blob.number) × (r.row.blob.number < number_end) × IsUpTo latest_moment r

-- rows are so, and what fades is a snapshot's; numbers of sessions lie below 2 ^ 63; and no moment of a document is later than the latest
pub record InRange (t : Tables) : Type 0 where
  pub hosted : AllByRecursion (λ (r : RecordedRow). IsRowInRange r × FadesRightly r.row) t.hosted
  pub cached : AllByRecursion IsRowInRange t.cached
  pub documents : AllByRecursion (λ (d : RecordedDocument). d.checked ≤ latest_moment) t.documents
  pub sessions : AllByRecursion (λ (one : RecordedSession). one.number < number_end) t.sessions

-- an item with such numbers and moments
abbrev pub IsItemInRange : Item → Type 0
IsItemInRange (HostedPut repo path blob print accepted) = (0 < blob) × (blob < number_end) × (accepted ≤ latest_moment)
IsItemInRange (Faded repo path moment) = moment ≤ latest_moment
IsItemInRange (Relisted repo path accepted) = accepted ≤ latest_moment
IsItemInRange (Removed repo path) = Unit {0}
IsItemInRange (CachedFile repo path blob print accepted) = (0 < blob) × (blob < number_end) × (accepted ≤ latest_moment)
IsItemInRange (CachedDoc repo path checked document) = checked ≤ latest_moment
IsItemInRange (SessionOpened n) = n < number_end
IsItemInRange (SessionEnded n result) = Unit {0}
IsItemInRange (Digested repo path further) = Unit {0}

-- rows of which some that lacked their further digests have been given them, and which are the same else
pub data AreCompleted : List RecordedRow → List RecordedRow → Type 0 where
  none : AreCompleted [] []
  same : (r : RecordedRow) (old new : List RecordedRow) → AreCompleted old new → AreCompleted (r ∷ old) (r ∷ new)
  given : (r : RecordedRow) (further : Further) (old new : List RecordedRow) → IsTrue (lacks_further r.row.blob.print) → AreCompleted old new
      → AreCompleted (r ∷ old) (record r { row = digested further r.row } ∷ new)

-- tables whose rows have been given them: what a start commits before its repository is there
pub record Completes (old new : Tables) : Type 0 where
  pub hosted : AreCompleted old.hosted new.hosted
  pub cached : AreCompleted old.cached new.cached
  pub documents : new.documents ≡ old.documents
  pub sessions : new.sessions ≡ old.sessions

-- a run: the tables once its start has completed them, the state in which it begins, and its entries
pub record Run : Type 0 where
  pub tables : Tables
  pub start : State
  pub entries : List Entry

-- none of some entries is earlier than a moment
abbrev pub BeginsFrom : ℕ → List Entry → Type 0
BeginsFrom last [] = Unit {0}
BeginsFrom last (e ∷ entries) = last ≤ e.moment

-- the last moment of some entries, or an earlier one
abbrev pub last_moment : ℕ → List Entry → ℕ
last_moment last [] = last
last_moment last (e ∷ entries) = last_moment e.moment entries

-- runs one after another under the same settings: each is a legal history from a sound state that stands for the tables after those before it, once its start has
-- completed them, and begins no earlier than these ended
abbrev pub Follow : Settings → Tables → ℕ → List Run → Type 0
Follow settings t last [] = Unit {0}
Follow settings t last (run ∷ runs) =
    Completes t run.tables × StandsFor run.tables run.start × IsSound settings run.start × Legal settings run.start run.entries × BeginsFrom last run.entries
    × Follow settings (with_items run.tables (told settings run.start run.entries)) (last_moment last run.entries) runs

-- a row is the earlier one, or that one with the further digests that it lacked
abbrev pub IsRowSince : Row → Row → Type 0
IsRowSince row earlier = (row ≡ earlier) ⊎ (IsTrue (lacks_further earlier.blob.print) × ((further : Further) × (row ≡ digested further earlier)))

-- so where one stood at a place, and none where none did
abbrev pub IsFoundSince : Option Row → Option Row → Type 0
IsFoundSince found None = found ≡ None
IsFoundSince found (Some earlier) = (row : Row) × (found ≡ Some row) × IsRowSince row earlier

-- so is a fingerprint
abbrev pub IsSince : Print → Print → Type 0
IsSince print earlier = (print ≡ earlier) ⊎ (IsTrue (lacks_further earlier) × ((further : Further) × (print ≡ with_further further earlier)))

-- the same content under the same number as earlier: the bytes that are told may differ, and further digests may have come
abbrev pub IsSameBlob : Blob → Blob → Type 0
IsSameBlob one earlier = (one.number ≡ earlier.number) × IsSince one.print earlier.print

-- in each of these runs a file is answered up to a moment
abbrev pub AnsweredOn : ℕ → List ℕ → List ℕ → Blob → Settings → List Run → Type 0
AnsweredOn last repo path blob settings runs =
    AllByRecursion (λ (run : Run). (kept : Blob) × IsSameBlob kept blob × AnswersUpTo last repo path kept settings run.start run.entries) runs
