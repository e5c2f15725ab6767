use Rattle.repo_laws.proofs.Ranges.{range-kept, range-applied, no-tables-in-range, range-history}
use Rattle.repo_laws.proofs.restarts.tables_stay_in_range.Goals as goal

pub returns-clause-item : goal.returns-clause-item
returns-clause-item c = range-kept

pub returns-clause-items : goal.returns-clause-items
returns-clause-items c = range-applied

pub returns-clause-empty : goal.returns-clause-empty
returns-clause-empty c = no-tables-in-range

pub returns-clause-history : goal.returns-clause-history
returns-clause-history c = λ settings entries s t apart legal sound range. range-history settings apart entries s t legal sound range
