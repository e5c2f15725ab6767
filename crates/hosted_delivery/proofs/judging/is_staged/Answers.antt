use Rattle.std.proofs.Common.{◌∙◌}
use Rattle.hosted_delivery.proofs.JudgingLemmas.{staged-there}
use Rattle.hosted_delivery.proofs.judging.is_staged.Goals as goal

pub returns : goal.returns
returns g c = c.contains_key.ensures ∙ staged-there c.args.path.now c.args.staged.now.entries
