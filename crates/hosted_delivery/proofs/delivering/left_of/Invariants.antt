use Rattle.std.proofs.Common.{◌≡◌, ◌++◌, ℕ, List}
use Rattle.std.specs.List.{flat_map}
use Rattle.hosted_delivery.specs.Deliveries.{left_by, session_with, shown_files}
use Rattle.ordered_rows.specs.Rows.{shown_rows}
use Rattle.hosted_delivery.proofs.DeliveryLemmas.{effects_by}
use Rattle.hosted_delivery.proofs.delivering.left_of.Given as goal

-- the blobs so far, with those of the files that are left
abbrev pub invariant-loop-path : goal.invariant-loop-path
invariant-loop-path g l =
    (repo : List ℕ) (now : ℕ) →
    let rows = shown_rows l.rows.entries in
    let files = shown_files l.fn.staged.entries in
    let s = session_with repo files in
    l.blobs.items ++ flat_map left_by (effects_by s now rows (shown_files l.path-iterator)) ≡ flat_map left_by (effects_by s now rows files)
