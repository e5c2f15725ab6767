use Rattle.proxy_laws.proofs.Planning.{needed}
use Rattle.proxy_laws.proofs.decisions.fetches_are_needed.Goals as goal

pub returns : goal.returns
returns c = needed
