use Rattle.std.proofs.Common.{◌∙◌, sym}
use Rattle.repo_rows.proofs.Ascii.{document_path_utf8}
use Rattle.repo_rows.proofs.strings.read_document_path.Goals as goal

pub text_of-requires : goal.text_of-requires
text_of-requires c = document_path_utf8 _ (sym c.is_document_path.ensures ∙ c.if-not-is_document_path.false)
