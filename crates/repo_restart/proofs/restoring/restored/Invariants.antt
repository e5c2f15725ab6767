-- The files so far are sound and have come back; the store is as it was.
use Rattle.std.proofs.Common.{◌≡◌, [], map, take}
use Rattle.blob_audit.specs.Damages.{AreDamaged}
use Rattle.blob_audit.specs.Files.{shown_file}
use Rattle.repo_restart.specs.Rows.{AreRowsRestored}
use Rattle.repo_restart.proofs.FileLemmas.{cached_of, rows_of}
use Rattle.repo_restart.proofs.ProxyLemmas.{CachedSoFar}
use Rattle.repo_restart.proofs.restoring.restored.Given as goal

abbrev pub invariant-loop-file : goal.invariant-loop-file
invariant-loop-file g l = record {
  kept : g.B.Blobs.shelf l.blobs ≡ g.B.Blobs.shelf l.fn.blobs;
  count : g.B.Blobs.faults l.blobs ≡ g.B.Blobs.faults l.fn.blobs;
  sound : AreDamaged (g.B.Blobs.shelf l.fn.blobs) (map (λ f. (shown_file f).row) (take l.file-index l.files)) [];
  restored : AreRowsRestored (g.B.Blobs.shelf l.fn.blobs) (rows_of (take l.file-index l.files)) l.rules l.repos.items;
  cached : CachedSoFar (g.B.Blobs.shelf l.fn.blobs) (cached_of (take l.file-index l.files)) l.proxy_rules l.proxies.items;
}
