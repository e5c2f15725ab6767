use Rattle.std.proofs.Common.{[], ◌∷◌, ◌++◌, take, drop, ap, List, ℕ, length}
use Rattle.mvn_metadata.specs.Written.{close_tag}
use Rattle.mvn_doc.proofs.TextLemmas.{line_end, then, same}
use Rattle.mvn_doc.proofs.writing.moment_line.Goals as goal

pub returns : goal.returns
returns c =
    let dotless = same (ap (λ (t : List ℕ). take 8 t ++ drop 9 t) c.text.ensures.text) c.without_dot.ensures in
    line_end (close_tag c.args.name.now) (10 ∷ []) (then (then c.word.ensures c.open_tag.ensures) dotless) c.close_tag.ensures

pub without_dot-requires : goal.without_dot-requires
without_dot-requires c = ap length c.text.ensures.text
