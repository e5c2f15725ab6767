use Rattle.mvn_doc.proofs.TextLemmas.{versions_block, then}
use Rattle.mvn_doc.proofs.writing.version_lines.Goals as goal

pub returns : goal.returns
returns c =
    versions_block c.args.versions.now c.is_empty.result c.if-is_empty.false c.is_empty.ensures.1
    (then (then c.open_line.ensures c.each_version.ensures) c.close_line.ensures)
