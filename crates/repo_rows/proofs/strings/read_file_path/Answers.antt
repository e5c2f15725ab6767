use Rattle.std.proofs.Common.{◌∙◌, sym}
use Rattle.repo_rows.proofs.Ascii.{file_path_utf8}
use Rattle.repo_rows.proofs.strings.read_file_path.Goals as goal

pub text_of-requires : goal.text_of-requires
text_of-requires c = file_path_utf8 _ (sym c.is_file_path.ensures ∙ c.if-not-is_file_path.false)
