use Rattle.mvn_metadata.specs.Written.{entry_lines}
use Rattle.mvn_doc.proofs.TextLemmas.{one_more}
use Rattle.mvn_doc.proofs.writing.each_entry.Goals as goal

pub loop-pair-preserved : goal.loop-pair-preserved
loop-pair-preserved c =
    one_more entry_lines c.args.out.now c.loop-pair.out c.entry_lines.new.out (c.in-Some.pair.now, c.in-Some.snapshot.now)
    c.loop-pair.pair-iterator c.next.new.self c.args.entries.now c.in-Some.ensures.steps c.entry_lines.ensures c.loop-pair.invariant
