-- How the lists of documents of one directory are united (Maven repository metadata 1.1.0): versions each once in the order of lists of versions, and for each pair of classifier and extension the newest build.
use Rattle.std.specs.Prelude.{ℕ, Bool, true, List, fold, Option, Some, None, if◌then◌else◌}
use Rattle.std.specs.BTreeMap.{insert_entry, is_at}
use Rattle.std.specs.BTreeSet.{insert_key}
use Rattle.std.specs.Map.{lookup}
use Rattle.std.specs.Ordering.{is_lt}
use Rattle.mvn_version.specs.Order.{list_cmp}
use Rattle.mvn_metadata.specs.declared.pair.Pair.{Pair}
use Rattle.mvn_metadata.specs.declared.pair.SnapshotBuild.{SnapshotBuild}
use Rattle.mvn_metadata.specs.Order.{build_cmp, pair_cmp}

-- a pair with its newest build
abbrev pub Entry : Type 0
Entry = Pair × SnapshotBuild

-- versions with those of another list, each once and in order
abbrev pub with_versions : List (List ℕ) → List (List ℕ) → List (List ℕ)
with_versions kept versions = fold (insert_key list_cmp) kept versions

-- nothing is kept yet, or an older build
abbrev pub is_newer : SnapshotBuild → Option SnapshotBuild → Bool
is_newer snapshot None = true
is_newer snapshot (Some kept) = is_lt (build_cmp kept.build snapshot.build)

-- entries in the order of their pairs, with another: it counts where it is newer than the one of its pair
abbrev pub with_entry : List Entry → Entry → List Entry
with_entry kept e =
    if is_newer e.1 (lookup (is_at (pair_cmp e.0)) kept) then insert_entry pair_cmp kept e.0 e.1 else kept

abbrev pub with_entries : List Entry → List Entry → List Entry
with_entries kept entries = fold with_entry kept entries
