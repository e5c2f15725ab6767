use Rattle.pass_laws.proofs.Wanting.{wanting}
use Rattle.pass_laws.proofs.laws.passes_want_memory_by_cause.Goals as goal

pub returns : goal.returns
returns c = wanting
