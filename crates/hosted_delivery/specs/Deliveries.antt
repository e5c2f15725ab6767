-- Staged files that are deployed together, as the machine's plain data.
use Rattle.std.specs.Prelude.{◌≡◌, ℕ, Bool, true, false, not, ◌&&◌, if◌then◌else◌, is_none, List, [], ◌∷◌, map, filter, Option, Some, None, Result, Ok, Err, String, string_bytes, bytes_eq}
use Rattle.std.specs.declared.alloc.Global.{Global}
use Rattle.std.specs.List.{list_any, flat_map}
use Rattle.outside.specs.declared.parcels.Parcel.{Parcel}
use Rattle.outside.specs.declared.stores.Held.{Ghosts}
use Rattle.repo_model.specs.declared.item.Item.{Item}
use Rattle.repo_model.specs.declared.item.Item.TheVariants.{HostedPut, Relisted}
use Rattle.repo_model.specs.declared.session.SessionResult.TheVariants as ends
use Rattle.repo_model.specs.Data as plain
use Rattle.repo_model.specs.Deploy.{Offence, offence, without_pom, deliver_all}
use Rattle.repo_model.specs.Effect.{Effect, discards, list_again, new_row, with_row, without_row}
use Rattle.repo_model.specs.Reply.{Reply, ended, missing_pom, no_memory, offends, store_fault}
use Rattle.repo_model.specs.Shown.{shown_parcel}
use Rattle.repo_model.specs.State.{change_where, is_row, row_at}
use Rattle.repo_model.specs.Turn.{Turn, commit_by}
use Rattle.row_tables.specs.Items.{is_count, is_file_path, is_number}
use Rattle.row_tables.specs.Leaving.{Leaves, Shown, done, failing, wanting}
use Rattle.hosted_delivery.specs.declared.judging.Other.{Other}
use Rattle.hosted_delivery.specs.declared.put_all.PutAll.{PutAll}
use Rattle.hosted_delivery.specs.declared.put_all.PutAll.TheVariants as did

module _ {X : Type 0} {G : Ghosts X} where
  abbrev pub shown_file : String Global × Parcel X G → plain.Staged
  shown_file e = record { path = string_bytes e.0; blob = shown_parcel e.1 }

  abbrev pub shown_files : List (String Global × Parcel X G) → List plain.Staged
  shown_files entries = map shown_file entries

-- a staged file can be recorded as a row: its path is a file's, its blob has a number, and its length lies below 2 ^ 63
abbrev pub is_recordable : plain.Staged → Bool
is_recordable file = is_file_path file.path && (is_number file.blob.number && is_count file.blob.print.length)

-- a session that has staged files for a repository; what its files come to is the same under each number
abbrev pub session_with : List ℕ → List plain.Staged → plain.Session
session_with repo files = record { number = 0; repo = repo; staged = files; ended = None }

-- what deploying files comes to, and what it does where it is done
abbrev pub delivery : plain.Hosted → List plain.Staged → ℕ → Turn
delivery h files now = commit_by (session_with h.rule.id files) now h.rows (offence h.rows files) (without_pom h.rows files)

abbrev pub deliveries : plain.Hosted → List plain.Staged → ℕ → List Effect
deliveries h files now = deliver_all (session_with h.rule.id files) now h.rows

-- the reply that says what deploying files came to
abbrev pub shown_put_all : PutAll → Reply
shown_put_all (did.Offends path kept sent) = offends path kept sent
shown_put_all (did.MissingPom dir) = missing_pom dir
shown_put_all did.StoreFault = store_fault
shown_put_all did.NoMemory = no_memory
shown_put_all (did.Done count blobs) = ended (ends.Done count)

abbrev pub is_done : PutAll → Bool
is_done (did.Done count blobs) = true
is_done answer = false

-- What it leaves of the records: what a call does by which these items were due, and all as it was if something stands against it.
abbrev pub LeavesDelivery : List Item → PutAll → Shown → Shown → Type 0
LeavesDelivery items (did.Offends path kept sent) old new = Leaves [] done old new × (new.unsettled ≡ old.unsettled)
LeavesDelivery items (did.MissingPom dir) old new = Leaves [] done old new × (new.unsettled ≡ old.unsettled)
LeavesDelivery items did.StoreFault old new = Leaves items failing old new
LeavesDelivery items did.NoMemory old new = Leaves items wanting old new
LeavesDelivery items (did.Done count blobs) old new = Leaves items done old new

-- the blobs that no row took
abbrev pub blobs_of : PutAll → List ℕ
blobs_of (did.Done count blobs) = blobs
blobs_of answer = []

abbrev pub left_by : Effect → List ℕ
left_by (discards n path draft) = draft ∷ []
left_by effect = []

-- what stands against deploying files
abbrev pub shown_other : Other → Offence
shown_other o = record { path = o.path.now; kept = o.kept; sent = o.sent }

-- the answer names it, or memory ran out
abbrev pub NamesOther : Other → PutAll → Type 0
NamesOther o (did.Offends path kept sent) = shown_other o ≡ record { path = path; kept = kept; sent = sent }
NamesOther o did.NoMemory = Unit {0}
NamesOther o answer = ⊥

-- nothing stands against it, or the answer says what does, or memory ran out
abbrev pub IsJudged : List plain.Row → List plain.Staged → Result (Unit {0}) PutAll → Type 0
IsJudged rows files (Ok nothing) = (offence rows files ≡ None) × (without_pom rows files ≡ None)
IsJudged rows files (Err (did.Offends path kept sent)) = offence rows files ≡ Some (record { path = path; kept = kept; sent = sent })
IsJudged rows files (Err (did.MissingPom dir)) = (offence rows files ≡ None) × (without_pom rows files ≡ Some dir)
IsJudged rows files (Err did.NoMemory) = Unit {0}
IsJudged rows files (Err did.StoreFault) = ⊥
IsJudged rows files (Err (did.Done count blobs)) = ⊥

-- the rows with one for each file whose path has none
abbrev pub with_file : ℕ → plain.Staged → List plain.Row → List plain.Row
with_file now file rows =
    if is_none (row_at file.path rows) then with_row (new_row file.path file.blob now) rows else rows

abbrev pub with_files : ℕ → List plain.Staged → List plain.Row → List plain.Row
with_files now [] rows = rows
with_files now (file ∷ files) rows = with_files now files (with_file now file rows)

-- the paths of files that have no row
abbrev pub free_path : List plain.Row → plain.Staged → List (List ℕ)
free_path rows file = if is_none (row_at file.path rows) then file.path ∷ [] else []

abbrev pub free_paths : List plain.Row → List plain.Staged → List (List ℕ)
free_paths rows files = flat_map (free_path rows) files

-- the rows without those at some paths
abbrev pub has_path : List (List ℕ) → plain.Row → Bool
has_path paths row = list_any (λ path. bytes_eq row.path path) paths

abbrev pub rows_without : List (List ℕ) → List plain.Row → List plain.Row
rows_without paths rows = filter (λ row. not (has_path paths row)) rows

-- the rows without those that items put
abbrev pub without_put : Item → List plain.Row → List plain.Row
without_put (HostedPut repo path blob print accepted) rows = without_row path rows
without_put item rows = rows

abbrev pub without_puts : List Item → List plain.Row → List plain.Row
without_puts [] rows = rows
without_puts (item ∷ items) rows = without_puts items (without_put item rows)

-- the rows with those visible again that items list
abbrev pub with_listed_by : ℕ → Item → List plain.Row → List plain.Row
with_listed_by now (Relisted repo path accepted) rows = change_where (is_row path) (list_again now) rows
with_listed_by now item rows = rows

abbrev pub with_listed : ℕ → List Item → List plain.Row → List plain.Row
with_listed now [] rows = rows
with_listed now (item ∷ items) rows = with_listed now items (with_listed_by now item rows)
