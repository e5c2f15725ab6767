use Rattle.std.proofs.Common.{◌∙◌}
use Rattle.repo_restart.proofs.NumberLemmas.{searched-among}
use Rattle.repo_restart.proofs.numbers.is_named.Goals as goal

pub returns : goal.returns
returns c = c.is_ok.ensures.value ∙ searched-among c.args.sorted.now c.args.number c.binary_search.result c.requires c.binary_search.ensures.position
