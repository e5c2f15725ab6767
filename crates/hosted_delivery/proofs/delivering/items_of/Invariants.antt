use Rattle.hosted_delivery.specs.Deliveries.{session_with, shown_files}
use Rattle.ordered_rows.specs.Rows.{shown_rows}
use Rattle.hosted_delivery.proofs.DeliveryLemmas.{IsRecording}
use Rattle.hosted_delivery.proofs.delivering.items_of.Given as goal

abbrev pub invariant-loop-path : goal.invariant-loop-path
invariant-loop-path g l =
    let files = shown_files l.fn.staged.entries in
    IsRecording (session_with l.repo files) l.now (shown_rows l.rows.entries) files (shown_files l.path-iterator) l.items.items
