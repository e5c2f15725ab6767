-- What a crash leaves of records, as the tables that a start then finds: between calls, and at each moment of one.
use Rattle.std.specs.Prelude.{◌≡◌, ◌⊎◌, ℕ, List, [], ◌∷◌, ◌++◌, Option, Some, None}
use Rattle.record_disk.specs.Disk.{Throughout, Trace}
use Rattle.repo_model.specs.declared.item.Item.{Item}
use Rattle.repo_model.specs.Tables.{Tables}
use Rattle.row_tables.specs.Applying.{with_items}
use Rattle.row_tables.specs.Commits.{tables_with}
use Rattle.row_tables.specs.Loading.{tables_in}

-- What a crash may leave beside the tables: the change whose commit failed and that is not undone, and the calls on the file of records so far,
-- where they are told.
pub record Unsettled : Type 0 where
  pub pending : Option (List Item)
  pub trace : Option Trace

abbrev pub nothing_unsettled : Unsettled
nothing_unsettled = record { pending = None; trace = None }

-- what a start may find between calls: the tables, or these with the change whose commit failed
abbrev pub left_by : Tables → Option (List Item) → List Tables
left_by t None = t ∷ []
left_by t (Some items) = t ∷ with_items t items ∷ []

-- one of these tables
abbrev pub IsOneOf : Tables → List Tables → Type 0
IsOneOf t [] = ⊥
IsOneOf t (u ∷ us) = (u ≡ t) ⊎ IsOneOf t us

-- a file from which a start reads one of these tables
abbrev pub ReadsAmong : List Tables → List ℕ → Type 0
ReadsAmong ts file = (t : Tables) × (tables_in file ≡ Some t) × IsOneOf t ts

-- A crash at any moment from the one to the other leaves such a file; or no file is told.
abbrev pub CrashesLeave : List Tables → Option Trace → Option Trace → Type 0
CrashesLeave ts None None = Unit {0}
CrashesLeave ts None (Some new) = ⊥
CrashesLeave ts (Some old) None = ⊥
CrashesLeave ts (Some old) (Some new) = Throughout (ReadsAmong ts) old new

-- a crash now leaves the tables, or these with the change that is pending
abbrev pub Rests : Option Tables → Unsettled → Type 0
Rests told now = (t : Tables) → told ≡ Some t → CrashesLeave (left_by t now.pending) now.trace now.trace

-- a crash at any moment of a call leaves what one before the call or after it leaves
abbrev pub CrashesInside : Option Tables → Option Tables → Unsettled → Unsettled → Type 0
CrashesInside told told' old new =
    (t u : Tables) → told ≡ Some t → told' ≡ Some u → CrashesLeave (left_by t old.pending ++ left_by u new.pending) old.trace new.trace

-- Items were committed, and nothing is pending; or there are none, and nothing was done.
abbrev pub IsCommitted : List Item → Option Tables → Unsettled → Unsettled → Type 0
IsCommitted items told old new = ((items ≡ []) × (new ≡ old)) ⊎ ((new.pending ≡ None) × CrashesInside told (tables_with items told) old new)

-- Nothing was done; or what was pending is so still, or was undone.
abbrev pub IsLeftOut : Option Tables → Unsettled → Unsettled → Type 0
IsLeftOut told old new = (new ≡ old) ⊎ (((new.pending ≡ None) ⊎ (new.pending ≡ old.pending)) × CrashesInside told told old new)

-- The commit of items failed: they are pending, or what was pending is so still, or was undone.
abbrev pub HasNotCommitted : List Item → Option Tables → Unsettled → Unsettled → Type 0
HasNotCommitted items told old new =
    ((new.pending ≡ None) ⊎ (new.pending ≡ old.pending) ⊎ (new.pending ≡ Some items)) × CrashesInside told told old new
