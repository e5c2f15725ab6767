use Rattle.std.proofs.Common.{◌≡◌}
use Rattle.repo_model.specs.Deploy.{offence}
use Rattle.hosted_delivery.specs.Deliveries.{shown_files}
use Rattle.ordered_rows.specs.Rows.{shown_rows}
use Rattle.hosted_delivery.proofs.judging.first_other.Given as goal

-- what stands against all stands against those that are left
abbrev pub invariant-loop-path : goal.invariant-loop-path
invariant-loop-path g l = offence (shown_rows l.rows.entries) (shown_files l.path-iterator) ≡ offence (shown_rows l.rows.entries) (shown_files l.fn.staged.entries)
