-- How one more version of a document is undone: its text goes out again, and the last change is the one before.
use Rattle.std.specs.Prelude.{ℕ, List, Option, Some, None}
use Rattle.std.specs.BTreeMap.{is_at}
use Rattle.std.specs.Set.{remove_key}
use Rattle.mvn_version.specs.Order.{list_cmp}
use Rattle.mvn_metadata.specs.declared.listing.Listing.{Listing}
use Rattle.mvn_metadata.specs.declared.listing.Listing.TheVariants.{Artifact, Snapshot}
use Rattle.mvn_metadata.specs.declared.undo.Undo.{Undo}

-- versions without one of them, where one is said
abbrev pub without_version : List (List ℕ) → Option (List ℕ) → List (List ℕ)
without_version versions None = versions
without_version versions (Some version) = remove_key (is_at (list_cmp version)) versions

-- what was listed before one more version and moment of change
abbrev pub undone : Listing → Undo → Listing
undone (Artifact versions updated) undo = Artifact (without_version versions undo.version) undo.updated
undone (Snapshot base newest entries) undo = Snapshot base newest entries
