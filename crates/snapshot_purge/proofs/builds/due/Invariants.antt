use Rattle.std.proofs.Common.{◌≡◌, map, take, filter}
use Rattle.snapshot_purge.specs.Shown.{is_due_among}
use Rattle.snapshot_purge.proofs.builds.due.Given as goal

-- the builds found so far
abbrev pub invariant-loop-aged : goal.invariant-loop-aged
invariant-loop-aged l =
    l.found.items ≡ map (λ a. a.build) (filter (is_due_among l.order.items l.rule.count l.rule.days l.now) (take l.aged-index l.builds))
