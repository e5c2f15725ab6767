-- The damaged ones of the files so far were found; store and count are as they were.
use Rattle.std.proofs.Common.{◌≡◌, map, take}
use Rattle.blob_audit.specs.Files.{shown_file}
use Rattle.blob_audit.specs.Damages.{AreDamaged}
use Rattle.blob_audit.proofs.damages.damages.Given as goal

abbrev pub invariant-loop-file : goal.invariant-loop-file
invariant-loop-file g l = record {
  kept : g.B.Blobs.shelf l.blobs ≡ g.B.Blobs.shelf l.fn.blobs;
  count : g.B.Blobs.faults l.blobs ≡ g.B.Blobs.faults l.fn.blobs;
  damaged : AreDamaged (g.B.Blobs.shelf l.fn.blobs) (map (λ f. (shown_file f).row) (take l.file-index l.files)) l.damaged.items;
}
