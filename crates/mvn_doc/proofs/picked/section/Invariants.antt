use Rattle.std.proofs.Common.{◌≡◌, ◌+◌, drop, not}
use Rattle.std.specs.List.{prefix_len}
use Rattle.mvn_doc.specs.declared.place.Place.TheVariants.{SnapshotVersion}
use Rattle.mvn_doc.specs.Place.{is_at}
use Rattle.mvn_doc.proofs.picked.section.Given as goal

abbrev pub invariant-loop-i : goal.invariant-loop-i
invariant-loop-i l =
    l.i + prefix_len (λ p. not (is_at p.place SnapshotVersion)) (drop l.i l.placed) ≡ prefix_len (λ p. not (is_at p.place SnapshotVersion)) l.placed
