use Rattle.session_laws.proofs.Lasting.{effect-result, entry-result, history-result, started-result}
use Rattle.session_laws.proofs.results.results_are_kept.Goals as goal

pub returns-clause-effect : goal.returns-clause-effect
returns-clause-effect c = effect-result

pub returns-clause-entry : goal.returns-clause-entry
returns-clause-entry c = entry-result

pub returns-clause-history : goal.returns-clause-history
returns-clause-history c = history-result

pub returns-clause-started : goal.returns-clause-started
returns-clause-started c = started-result
