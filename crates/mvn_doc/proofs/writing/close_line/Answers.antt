use Rattle.std.proofs.Common.{[], ◌∷◌}
use Rattle.mvn_metadata.specs.Written.{close_tag}
use Rattle.mvn_doc.proofs.TextLemmas.{line_end}
use Rattle.mvn_doc.proofs.writing.close_line.Goals as goal

pub returns : goal.returns
returns c =
    line_end (close_tag c.args.name.now) (10 ∷ []) c.word.ensures c.close_tag.ensures
