use Rattle.std.specs.Int.{w64, to_be_bytes}
use Rattle.row_tables.specs.Items.{document_bytes}
use Rattle.repo_rows.proofs.Sized.{put_then}
use Rattle.repo_rows.proofs.writing.put_kept.Goals as goal

pub returns : goal.returns
returns c =
    put_then c.put_document.result c.put_document.new.out.items c.args.out.now.items (to_be_bytes w64 c.args.checked) (document_bytes c.args.document.now) c.put_number.new.out.items c.in_ok-put_number.ensures c.put_document.ensures
