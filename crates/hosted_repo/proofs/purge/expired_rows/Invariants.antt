use Rattle.std.proofs.Common.{◌≡◌, ℕ, List, map, filter, take}
use Rattle.std.specs.Map.Iter.{deref_pair}
use Rattle.repo_model.specs.Effect.{expires}
use Rattle.hosted_repo.specs.Expired.{shown_expired}
use Rattle.ordered_rows.specs.Rows.{is_before, shown_rows}
use Rattle.hosted_repo.proofs.purge.expired_rows.Given as goal

-- the first of the rows so far
abbrev pub invariant-loop-path : goal.invariant-loop-path
invariant-loop-path g l =
    (repo : List ℕ) → map (shown_expired repo) l.found.items
    ≡ map (λ row. expires repo row.path row.blob.number) (take l.most (filter (λ row. is_before l.limit row.phase) (shown_rows (map deref_pair l.yielded))))
