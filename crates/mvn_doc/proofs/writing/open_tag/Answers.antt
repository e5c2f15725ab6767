use Rattle.mvn_doc.proofs.TextLemmas.{then}
use Rattle.mvn_doc.proofs.writing.open_tag.Goals as goal

pub returns : goal.returns
returns c =
    then c.word.ensures (then c.word-2.ensures c.word-3.ensures)
