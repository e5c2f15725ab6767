use Rattle.std.proofs.Common.{[], ◌∷◌}
use Rattle.mvn_metadata.specs.Written.{close_tag}
use Rattle.mvn_doc.proofs.TextLemmas.{line_end, then}
use Rattle.mvn_doc.proofs.writing.element.Goals as goal

pub returns : goal.returns
returns c =
    line_end (close_tag c.args.name.now) (10 ∷ []) (then (then c.word.ensures c.open_tag.ensures) c.put.ensures) c.close_tag.ensures
