use Rattle.std.proofs.Common.{◌≡◌, take}
use Rattle.hosted_delivery.specs.Deliveries.{with_listed}
use Rattle.hosted_delivery.proofs.delivering.list_all_by.Given as goal

abbrev pub invariant-loop-item : goal.invariant-loop-item
invariant-loop-item g l = l.rows ≡ with_listed l.now (take l.item-index l.items) l.fn.rows
