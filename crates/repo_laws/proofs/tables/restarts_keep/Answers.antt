use Rattle.repo_laws.proofs.HoldingRestarts.{rows-again, results-again, numbers-again, moments-again, open-lost}
use Rattle.repo_laws.proofs.tables.restarts_keep.Goals as goal

pub returns-clause-rows : goal.returns-clause-rows
returns-clause-rows c = rows-again

pub returns-clause-results : goal.returns-clause-results
returns-clause-results c = results-again

pub returns-clause-numbers : goal.returns-clause-numbers
returns-clause-numbers c = numbers-again

pub returns-clause-lost : goal.returns-clause-lost
returns-clause-lost c = open-lost

pub returns-clause-moments : goal.returns-clause-moments
returns-clause-moments c = moments-again
