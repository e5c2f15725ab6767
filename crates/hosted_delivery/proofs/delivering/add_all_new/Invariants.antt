use Rattle.hosted_delivery.specs.Deliveries.{shown_files}
use Rattle.hosted_delivery.proofs.UndoneLemmas.{IsAdding}
use Rattle.hosted_delivery.proofs.delivering.add_all_new.Given as goal

abbrev pub invariant-loop-path : goal.invariant-loop-path
invariant-loop-path g l = IsAdding l.now (shown_files l.fn.staged.entries) l.fn.rows (shown_files l.path-iterator) l.rows
