use Rattle.std.proofs.Common.{sym, ◌∙◌}
use Rattle.repo_config.proofs.Ids.{some_id}
use Rattle.repo_config.proofs.names.is_among.Goals as goal

pub returns : goal.returns
returns c = c.some_is.ensures ∙ sym (some_id c.args.ids.now c.args.id.now)
