use Rattle.http_wire.proofs.TreeLemmas.{head_of-reads, reads-head_of}
use Rattle.http_wire.proofs.laws.head_is_of_the_grammar.Goals as goal

pub returns-clause-sound : goal.returns-clause-sound
returns-clause-sound c = reads-head_of

pub returns-clause-complete : goal.returns-clause-complete
returns-clause-complete c = head_of-reads
