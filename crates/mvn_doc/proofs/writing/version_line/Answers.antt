use Rattle.std.proofs.Common.{[], ◌∷◌}
use Rattle.std.specs.Prelude.{codes}
use Rattle.mvn_metadata.specs.Written.{close_tag}
use Rattle.mvn_doc.proofs.TextLemmas.{line_end, same, then}
use Rattle.mvn_doc.proofs.writing.version_line.Goals as goal

pub returns : goal.returns
returns c =
    line_end (close_tag (codes "version")) (10 ∷ []) (then c.word.ensures (same c.as_str.ensures c.word-2.ensures)) c.word-3.ensures
