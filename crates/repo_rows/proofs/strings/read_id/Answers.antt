use Rattle.std.proofs.Common.{◌∙◌, sym}
use Rattle.repo_rows.proofs.Ascii.{id_utf8}
use Rattle.repo_rows.proofs.strings.read_id.Goals as goal

pub text_of-requires : goal.text_of-requires
text_of-requires c = id_utf8 _ (sym c.is_id.ensures ∙ c.if-not-is_id.false)
