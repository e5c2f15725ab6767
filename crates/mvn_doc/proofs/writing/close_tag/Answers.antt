use Rattle.std.proofs.Common.{[], ◌∷◌, ap, sym, append_assoc}
use Rattle.mvn_doc.proofs.TextLemmas.{then, same}
use Rattle.mvn_doc.proofs.writing.close_tag.Goals as goal

pub returns : goal.returns
returns c =
    let name = c.args.name.now in
    same (ap (λ t. 60 ∷ 47 ∷ t) (sym (append_assoc name (62 ∷ []) (10 ∷ []))))
    (then c.word.ensures (then c.word-2.ensures c.word-3.ensures))
