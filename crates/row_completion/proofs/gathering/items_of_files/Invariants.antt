-- What is to be recorded of the files so far, which are sound; the store is as it was.
use Rattle.std.proofs.Common.{◌≡◌, [], map, take}
use Rattle.blob_audit.specs.Damages.{AreDamaged}
use Rattle.blob_audit.specs.Files.{shown_file}
use Rattle.row_completion.specs.Gathering.{AreItemsOf}
use Rattle.row_completion.proofs.gathering.items_of_files.Given as goal

abbrev pub invariant-loop-file : goal.invariant-loop-file
invariant-loop-file g l = record {
  kept : g.B.Blobs.shelf l.blobs ≡ g.B.Blobs.shelf l.fn.blobs;
  count : g.B.Blobs.faults l.blobs ≡ g.B.Blobs.faults l.fn.blobs;
  sound : AreDamaged (g.B.Blobs.shelf l.fn.blobs) (map (λ f. (shown_file f).row) (take l.file-index l.files)) [];
  items : AreItemsOf (g.B.Blobs.shelf l.fn.blobs) (map shown_file (take l.file-index l.files)) l.items.items;
}
