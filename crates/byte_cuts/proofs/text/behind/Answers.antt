use Rattle.byte_cuts.proofs.Strips.{after_strip}
use Rattle.byte_cuts.proofs.text.behind.Goals as goal

pub returns : goal.returns
returns c = after_strip c.args.front.now c.args.text.now c.strip_prefix.result c.strip_prefix.ensures.cases
