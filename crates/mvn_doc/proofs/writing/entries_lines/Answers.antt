use Rattle.mvn_doc.proofs.TextLemmas.{entries_block, then}
use Rattle.mvn_doc.proofs.writing.entries_lines.Goals as goal

pub returns : goal.returns
returns c =
    entries_block c.args.entries.now c.is_empty.result c.if-is_empty.false c.is_empty.ensures.1
    (then (then c.open_line.ensures c.each_entry.ensures) c.close_line.ensures)
