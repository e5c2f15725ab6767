use native.Mathlib.Omega.{arith}
use Rattle.mvn_metadata.specs.Written.{entry_lines}
use Rattle.doc_lengths.proofs.LengthLemmas.{all-counted, one-more}
use Rattle.doc_lengths.proofs.lengths.each_entry.Goals as goal

pub loop-pair-preserved : goal.loop-pair-preserved
loop-pair-preserved c = (
  omega (arith, c.saturating_add-size.ensures),
  one-more entry_lines c.loop-pair.size c.entry_lines.result c.saturating_add-size.result _ (c.in-Some.pair.now, c.in-Some.snapshot.now) c.loop-pair.pair-iterator c.next.new.self c.in-Some.ensures.steps
      c.entry_lines.ensures c.saturating_add-size.ensures c.loop-pair.invariant.1,
)

pub returns : goal.returns
returns c = all-counted entry_lines c.loop-pair.size _ c.loop-pair.pair-iterator c.in-None.ensures.steps.0 c.loop-pair.invariant.0 c.loop-pair.invariant.1
