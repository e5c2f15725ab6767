use Rattle.repo_laws.proofs.Holding.{applied-ordered}
use Rattle.repo_laws.proofs.HoldingOrder.{ordered-kept, no-tables-ordered}
use Rattle.repo_laws.proofs.tables.tables_stay_in_order.Goals as goal

pub returns-clause-item : goal.returns-clause-item
returns-clause-item c = ordered-kept

pub returns-clause-items : goal.returns-clause-items
returns-clause-items c = applied-ordered

pub returns-clause-empty : goal.returns-clause-empty
returns-clause-empty c = no-tables-ordered
