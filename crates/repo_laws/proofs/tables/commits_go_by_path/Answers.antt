use Rattle.repo_laws.proofs.HoldingStaged.{staged-kept, staged-last, commit-rises, first-offends}
use Rattle.repo_laws.proofs.tables.commits_go_by_path.Goals as goal

pub returns-clause-effect : goal.returns-clause-effect
returns-clause-effect c = staged-kept

pub returns-clause-opening : goal.returns-clause-opening
returns-clause-opening c = λ settings clock. tt

pub returns-clause-history : goal.returns-clause-history
returns-clause-history c = λ settings entries s apart sound rising legal. staged-last settings apart entries s sound.order rising legal

pub returns-clause-items : goal.returns-clause-items
returns-clause-items c = commit-rises

pub returns-clause-offends : goal.returns-clause-offends
returns-clause-offends c = first-offends
