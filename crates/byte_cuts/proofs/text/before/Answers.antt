use Rattle.byte_cuts.proofs.Strips.{before_strip}
use Rattle.byte_cuts.proofs.text.before.Goals as goal

pub returns : goal.returns
returns c = before_strip c.args.end.now c.args.text.now c.strip_suffix.result c.strip_suffix.ensures.cases
