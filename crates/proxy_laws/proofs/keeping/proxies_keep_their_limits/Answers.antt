use Rattle.proxy_laws.proofs.Limits.{opening-limits, started-limits, effect-limits, entry-limits, history-limits}
use Rattle.proxy_laws.proofs.keeping.proxies_keep_their_limits.Goals as goal

pub returns-clause-opening : goal.returns-clause-opening
returns-clause-opening c = opening-limits

pub returns-clause-started : goal.returns-clause-started
returns-clause-started c = started-limits

pub returns-clause-effect : goal.returns-clause-effect
returns-clause-effect c = effect-limits

pub returns-clause-entry : goal.returns-clause-entry
returns-clause-entry c = entry-limits

pub returns-clause-history : goal.returns-clause-history
returns-clause-history c = history-limits
