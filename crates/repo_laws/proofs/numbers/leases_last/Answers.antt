use Rattle.repo_laws.proofs.Readers.{answered-lent, lent-entry, none-lent}
use Rattle.repo_laws.proofs.numbers.leases_last.Goals as goal

pub returns-clause-lent : goal.returns-clause-lent
returns-clause-lent c = answered-lent

pub returns-clause-kept : goal.returns-clause-kept
returns-clause-kept c = λ settings old e lease n lent other. lent-entry lease n settings old e other lent

pub returns-clause-given_back : goal.returns-clause-given_back
returns-clause-given_back c = none-lent
