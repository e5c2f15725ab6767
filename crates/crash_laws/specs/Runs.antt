-- A run of a repository, entry by entry, and what a start may find after a crash at each of its moments.
use Rattle.std.specs.Prelude.{◌≡◌, ℕ, List, [], ◌∷◌, ◌++◌, Option, Some, None}
use Rattle.record_disk.specs.Disk.{Throughout, Trace}
use Rattle.std.specs.Option.{ForSome}
use Rattle.outside.specs.Blobs.{Shelf, bytes_at, standing_at}
use Rattle.outside.specs.Moments.{Moments}
use Rattle.repo_model.specs.Command.{look}
use Rattle.repo_model.specs.Data.{Blob, Row}
use Rattle.repo_model.specs.Effect.{recorded}
use Rattle.repo_model.specs.History.{Entry, Legal, after, effects_of, end}
use Rattle.repo_model.specs.Restart.{started}
use Rattle.repo_model.specs.Settings.{Settings}
use Rattle.repo_model.specs.State.{State}
use Rattle.repo_model.specs.Tables.{Tables}
use Rattle.repo_laws.specs.Closed.{GivesFile}
use Rattle.repo_laws.specs.Holds.{InOrder, with_items}
use Rattle.repo_laws.specs.InRange.{Completes, InRange, IsSameBlob}
use Rattle.row_tables.specs.Crashing.{Crashing}
use Rattle.row_tables.specs.Loading.{tables_in}
use Rattle.row_tables.specs.Crashes.{Unsettled}
use Rattle.crash_laws.specs.Found.{KeepsOthers}
use Rattle.crash_laws.specs.Crashes.{IsLeft, MayNotGo}

-- the tables after an entry
abbrev pub tables_after : Settings → State → Entry → Tables → Tables
tables_after settings s e t = with_items t (recorded (effects_of settings s e))

-- These entries were made one after another, in a state over these tables, each with what it does to what a crash leaves.
abbrev pub CrashesAlong : Settings → State → Tables → List Entry → Unsettled → Unsettled → Type 0
CrashesAlong settings s t [] old new = new ≡ old
CrashesAlong settings s t (e ∷ entries) old new =
    (mid : Unsettled) × Crashing settings s e (Some t) (Some (tables_after settings s e t)) old mid
    × CrashesAlong settings (after settings s e) (tables_after settings s e t) entries mid new

-- At each moment from the one to the other a start reads, from any file that a crash then leaves, tables of which this is true; or no
-- file is told.
abbrev pub FindsAlways : (Tables → Type 0) → Option Trace → Option Trace → Type 0
FindsAlways P None None = Unit {0}
FindsAlways P None (Some new) = ⊥
FindsAlways P (Some old) None = ⊥
FindsAlways P (Some old) (Some new) = Throughout (λ file. (u : Tables) × (tables_in file ≡ Some u) × P u) old new

-- tables that a crash leaves after the first of these entries, as many as there may be
abbrev pub IsLeftBySome : Settings → State → Tables → List Entry → Tables → Type 0
IsLeftBySome settings s t entries u = (front rest : List Entry) × (entries ≡ front ++ rest) × IsLeft settings s t front u

-- a blob of this number and fingerprint, with the bytes that the store tells of the number
abbrev pub IsFoundAgain : (ℕ → Option (List ℕ)) → Blob → Blob → Type 0
IsFoundAgain tells kept earlier = IsSameBlob kept earlier × (kept.bytes ≡ tells earlier.number)

-- A start over these tables, where the store tells these bytes, once it has completed them, and any entries, without a Collect where the file
-- is a snapshot's: who looks at this file then is given it, with its number and its fingerprint, and with these bytes, where any are told; or
-- memory runs out, or no lease is left.
abbrev pub IsAnsweredWith : Settings → (ℕ → Option (List ℕ)) → List ℕ → Row → Option (List ℕ) → Tables → Type 0
IsAnsweredWith settings tells repo row bytes u =
    (stored : List ℕ) (clock : Option Moments) (faults : ℕ) (whole : Tables) (before rest : List Entry) (e : Entry) (tried : List ℕ)
    → InOrder u → InRange u → Completes u whole → Legal settings (started settings tells stored clock faults whole) (before ++ e ∷ rest) → MayNotGo before row.path
    → e.command ≡ look repo row.path tried
    → (kept : Blob) × (IsSameBlob kept row.blob × (kept.bytes ≡ bytes)) × GivesFile (end settings (started settings tells stored clock faults whole) before) kept e.reply

-- so with the bytes that the store told of the number as it was opened
abbrev pub IsAnsweredAgain : Settings → List ℕ → Row → Tables → Type 0
IsAnsweredAgain settings repo row u = (tells : ℕ → Option (List ℕ)) → IsAnsweredWith settings tells repo row (tells row.blob.number) u

-- so with these bytes over the store that is found, where it tells its blobs
abbrev pub IsAnsweredOver : Settings → Shelf → List ℕ → Row → List ℕ → Tables → Type 0
IsAnsweredOver settings found repo row bytes u =
    (tells : ℕ → Option (List ℕ)) → ForSome found.blobs (λ them. ((n : ℕ) → tells n ≡ bytes_at n them) → IsAnsweredWith settings tells repo row (Some bytes) u)

-- and over each that keeps what it acknowledged, but that it may have lost the blobs of some numbers
abbrev pub IsAnsweredBy : Settings → List ℕ → Shelf → List ℕ → Row → List ℕ → Tables → Type 0
IsAnsweredBy settings gone acknowledged repo row bytes u = (found : Shelf) → KeepsOthers gone acknowledged found → IsAnsweredOver settings found repo row bytes u

-- and with the bytes that were acknowledged under its number
abbrev pub IsAnsweredWhole : Settings → List ℕ → List ℕ → Row → Tables → Type 0
IsAnsweredWhole settings gone repo row u =
    (acknowledged : Shelf) (bytes : List ℕ) → standing_at row.blob.number acknowledged ≡ Some bytes → IsAnsweredBy settings gone acknowledged repo row bytes u
