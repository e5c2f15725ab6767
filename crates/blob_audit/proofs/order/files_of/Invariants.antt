-- The files of the rows so far, in their order.
use Rattle.std.proofs.Common.{◌≡◌, map}
use Rattle.std.specs.Map.Iter.{deref_pair}
use Rattle.row_tables.specs.Stored.{shown_rows}
use Rattle.blob_audit.specs.Files.{shown_file}
use Rattle.blob_audit.specs.Order.{files_of}
use Rattle.blob_audit.proofs.order.files_of.Given as goal

abbrev pub invariant-loop-place : goal.invariant-loop-place
invariant-loop-place l = map shown_file l.files.items ≡ files_of l.is_hosted (shown_rows (map deref_pair l.yielded))
