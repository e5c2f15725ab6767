use Rattle.table_laws.proofs.Building.{built-order, built-range, built-hosted, built-cached, built-listed}
use Rattle.table_laws.proofs.laws.built_tables_are_right.Goals as goal

pub returns-clause-order : goal.returns-clause-order
returns-clause-order c = built-order

pub returns-clause-range : goal.returns-clause-range
returns-clause-range c = built-range

pub returns-clause-hosted : goal.returns-clause-hosted
returns-clause-hosted c = built-hosted

pub returns-clause-cached : goal.returns-clause-cached
returns-clause-cached c = built-cached

pub returns-clause-listed : goal.returns-clause-listed
returns-clause-listed c = built-listed
