use Rattle.proxy_laws.proofs.Deciding.{each-decision}
use Rattle.proxy_laws.proofs.decisions.decisions_have_causes.Goals as goal

pub returns : goal.returns
returns c = each-decision
