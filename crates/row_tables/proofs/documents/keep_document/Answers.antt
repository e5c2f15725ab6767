use Rattle.std.proofs.Common.{◌∙◌, ap}
use Rattle.row_tables.specs.Stored.{shown_documents}
use Rattle.row_tables.proofs.Places.{document_kept}
use Rattle.row_tables.proofs.documents.keep_document.Goals as goal

pub returns-clause-ok : goal.returns-clause-ok
returns-clause-ok c = ap shown_documents c.in_ok-insert.ensures.entries ∙ document_kept c.args.place c.args.kept c.args.documents.now.entries
