use Rattle.std.proofs.Common.{◌≡◌, ◌≤◌, take}
use Rattle.std.specs.List.{All}
use Rattle.repo_model.specs.History.{latest_moment}
use Rattle.ordered_rows.specs.Rows.{shown_rows}
use Rattle.hosted_repo.specs.Fades.{accepted_at}
use Rattle.hosted_repo.proofs.purge.moments_of.Given as goal

abbrev pub invariant-loop-path : goal.invariant-loop-path
invariant-loop-path g l = record {
  moments : l.moments.items ≡ accepted_at (shown_rows l.rows.entries) (take l.path-index l.paths);
  late : All (λ moment. moment ≤ latest_moment) l.moments.items;
}
