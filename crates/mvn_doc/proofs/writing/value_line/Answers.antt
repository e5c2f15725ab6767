use Rattle.std.proofs.Common.{[], ◌∷◌, ◌∙◌}
use Rattle.mvn_metadata.specs.Written.{close_tag}
use Rattle.mvn_doc.proofs.TextLemmas.{line_end, then, same}
use Rattle.mvn_doc.proofs.writing.value_line.Goals as goal

pub returns : goal.returns
returns c =
    let based = same c.as_str.ensures c.word-2.ensures in
    let built = same (c.as_bytes.ensures ∙ c.text.ensures) c.put.ensures in
    let value = then based (then c.word-3.ensures built) in
    line_end (close_tag c.args.name.now) (10 ∷ []) (then (then c.word.ensures c.open_tag.ensures) value) c.close_tag.ensures
