use Rattle.session_laws.proofs.Keeping.{opening-limits, started-limits, effect-limits, entry-limits, history-limits}
use Rattle.session_laws.proofs.laws.sessions_keep_their_limits.Goals as goal

pub returns-clause-opening : goal.returns-clause-opening
returns-clause-opening c = opening-limits

pub returns-clause-started : goal.returns-clause-started
returns-clause-started c = started-limits

pub returns-clause-effect : goal.returns-clause-effect
returns-clause-effect c = effect-limits

pub returns-clause-entry : goal.returns-clause-entry
returns-clause-entry c = λ settings old e apart sound keeps fits. entry-limits settings apart old e sound keeps fits

pub returns-clause-history : goal.returns-clause-history
returns-clause-history c = λ settings start entries apart sound keeps legal. history-limits settings apart start entries sound keeps legal
