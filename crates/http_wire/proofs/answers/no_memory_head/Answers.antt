use Rattle.http_wire.proofs.OnLiterals.{http_wire_on_literals}
use Rattle.http_wire.proofs.answers.no_memory_head.Goals as goal

pub returns : goal.returns
unfolding http_wire_on_literals
returns c = c.as_slice.ensures
