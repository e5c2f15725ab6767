-- Builds and their ages as the machine's plain data.
use Rattle.std.specs.Prelude.{ℕ, ◌+◌, ◌*◌, Bool, ◌&&◌, nat_le, nat_lt, List, map, count_by}
use Rattle.std.specs.Ordering.{is_lt}
use Rattle.mvn_coords.specs.FileName.{BuildOf}
use Rattle.mvn_metadata.specs.Order.{build_cmp}
use Rattle.repo_model.specs.Purge as plain
use Rattle.snapshot_purge.specs.declared.builds.Aged.{Aged}

abbrev pub shown_build : Aged → plain.Aged
shown_build a = record { build = a.build; accepted = a.accepted }

abbrev pub shown_builds : List Aged → List plain.Aged
shown_builds builds = map shown_build builds

-- beside these builds it has so many newer ones, and is older than so many days
abbrev pub is_due_among : List BuildOf → ℕ → ℕ → ℕ → Aged → Bool
is_due_among builds count days now a =
    nat_le count (count_by (λ other. is_lt (build_cmp a.build other)) builds) && nat_lt (a.accepted + days * 86_400) now
