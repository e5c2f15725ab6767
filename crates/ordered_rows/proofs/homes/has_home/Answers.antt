use Rattle.std.proofs.Common.{◌∙◌}
use Rattle.ordered_rows.proofs.HomeLemmas.{contained}
use Rattle.ordered_rows.proofs.homes.has_home.Goals as goal

pub returns : goal.returns
returns c = c.contains.ensures ∙ contained c.args.home.now c.args.homes.now.keys
