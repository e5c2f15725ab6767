use Rattle.std.proofs.Common.{◌++◌, ap, take}
use Rattle.std.proofs.lemmas.List.{take_rest}
use Rattle.mvn_doc.proofs.TextLemmas.{then, same}
use Rattle.mvn_doc.proofs.writing.without_dot.Goals as goal

pub returns : goal.returns
returns c =
    let text = c.args.text.now in
    same (ap (λ t. take 8 text ++ t) (take_rest text 9)) (then c.put.ensures c.put-2.ensures)
