use Rattle.doc_lengths.proofs.LengthLemmas.{classifier-so}
use Rattle.doc_lengths.proofs.lengths.classifier_line.Goals as goal

pub returns : goal.returns
returns c = classifier-so c.args.classifier c.element.result c.ranges.classifier.fits c.if-classifier-eq0.false c.element.ensures
