use Rattle.std.proofs.Common.{◌≡◌, ℕ, List, take}
use Rattle.hosted_repo.specs.Fades.{fade_at_paths}
use Rattle.ordered_rows.specs.Rows.{rows_after_all}
use Rattle.hosted_repo.proofs.purge.fade_all.Given as goal

-- the rows once those at the paths so far have faded
abbrev pub invariant-loop-path : goal.invariant-loop-path
invariant-loop-path g l =
    (repo : List ℕ) → l.rows ≡ rows_after_all (fade_at_paths repo l.moment (take l.path-index l.paths)) l.fn.rows
