use Rattle.row_completion.proofs.Digesting.{bare-stay, completes-so, named-stay, tables-stay, the-same}
use Rattle.row_completion.proofs.laws.digests_change_nothing_else.Goals as goal

pub returns-clause-itself : goal.returns-clause-itself
returns-clause-itself c = the-same

pub returns-clause-complete : goal.returns-clause-complete
returns-clause-complete c = tables-stay

pub returns-clause-bare : goal.returns-clause-bare
returns-clause-bare c = bare-stay

pub returns-clause-completes : goal.returns-clause-completes
returns-clause-completes c = completes-so

pub returns-clause-numbers : goal.returns-clause-numbers
returns-clause-numbers c = named-stay
