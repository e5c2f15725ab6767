-- Of the numbers so far those that are not named are gone.
use Rattle.std.proofs.Common.{◌≡◌, take}
use Rattle.repo_restart.specs.Leftovers.{left_over, without_blobs}
use Rattle.repo_restart.proofs.leftovers.remove_left_over.Given as goal

abbrev pub invariant-loop-number : goal.invariant-loop-number
invariant-loop-number g l = record {
  count : g.B.Blobs.faults l.blobs ≡ g.B.Blobs.faults l.fn.blobs;
  shelf : g.B.Blobs.shelf l.blobs ≡ without_blobs (left_over l.sorted (take l.number-index l.stored)) (g.B.Blobs.shelf l.fn.blobs);
}
