use Rattle.proxy_laws.proofs.Landings.{entry-leaves, history-leaves}
use Rattle.proxy_laws.proofs.keeping.proxies_change_by_landings.Goals as goal

pub returns-clause-entry : goal.returns-clause-entry
returns-clause-entry c = entry-leaves

pub returns-clause-history : goal.returns-clause-history
returns-clause-history c = history-leaves
