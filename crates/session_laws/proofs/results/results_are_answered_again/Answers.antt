use Rattle.session_laws.proofs.Ending.{result-told, result-again, history-again}
use Rattle.session_laws.proofs.results.results_are_answered_again.Goals as goal

pub returns-clause-told : goal.returns-clause-told
returns-clause-told c = result-told

pub returns-clause-again : goal.returns-clause-again
returns-clause-again c = result-again

pub returns-clause-history : goal.returns-clause-history
returns-clause-history c = history-again
