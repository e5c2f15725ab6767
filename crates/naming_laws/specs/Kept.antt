-- The files of a repository: the path and the blob of each row. What may change them, and what keeps each of them.
use Rattle.std.specs.Prelude.{◌≡◌, ℕ, Bool, true, false, List, map, Some}
use Rattle.repo_model.specs.declared.session.SessionResult.TheVariants.{Done}
use Rattle.repo_model.specs.Data.{Blob, Row}
use Rattle.repo_model.specs.State.{State, row_at, rows_of}
use Rattle.repo_model.specs.Effect.{Effect, expires}
use Rattle.repo_model.specs.Reply.{Reply, created, ended, collected}

-- the path and the blob of each row of a repository, in the order of the rows
abbrev pub file_in : Row → List ℕ × Blob
file_in row = (row.path, row.blob)

abbrev pub files_of : List ℕ → State → List (List ℕ × Blob)
files_of repo s = map file_in (rows_of repo s)

-- the replies of turns after which there may be other files
abbrev pub may_change_files : Reply → Bool
may_change_files created = true
may_change_files (ended (Done n)) = true
may_change_files (collected expired blobs) = true
may_change_files reply = false

-- the effect that takes a row away
abbrev pub takes_away : Effect → Bool
takes_away (expires repo path blob) = true
takes_away effect = false

-- where a row stood one stands, with the same blob
abbrev pub KeepsFiles : State → State → Type 0
KeepsFiles old new =
    (repo path : List ℕ) (row : Row) → row_at path (rows_of repo old) ≡ Some row
    → (kept : Row) × (row_at path (rows_of repo new) ≡ Some kept) × (kept.blob ≡ row.blob)
