use Rattle.repo_laws.proofs.Completing.{completed-order, completed-range, completed-rows, completed-files, completed-twice}
use Rattle.repo_laws.proofs.restarts.starts_complete_rows.Goals as goal

pub returns-clause-order : goal.returns-clause-order
returns-clause-order c = completed-order

pub returns-clause-range : goal.returns-clause-range
returns-clause-range c = completed-range

pub returns-clause-rows : goal.returns-clause-rows
returns-clause-rows c = λ old new repo path completes. completed-rows old new completes repo path

pub returns-clause-files : goal.returns-clause-files
returns-clause-files c = λ old new repo path completes. completed-files old new completes repo path

pub returns-clause-joined : goal.returns-clause-joined
returns-clause-joined c = completed-twice
