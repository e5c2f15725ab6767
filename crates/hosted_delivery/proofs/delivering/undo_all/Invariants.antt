use Rattle.std.proofs.Common.{◌≡◌, take}
use Rattle.hosted_delivery.specs.Deliveries.{without_puts}
use Rattle.hosted_delivery.proofs.delivering.undo_all.Given as goal

abbrev pub invariant-loop-item : goal.invariant-loop-item
invariant-loop-item g l = l.rows ≡ without_puts (take l.item-index l.items) l.fn.rows
