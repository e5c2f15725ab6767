use Rattle.mvn_doc.proofs.TextLemmas.{then}
use Rattle.mvn_doc.proofs.writing.open_line.Goals as goal

pub returns : goal.returns
returns c =
    then (then c.word.ensures c.open_tag.ensures) c.word-2.ensures
