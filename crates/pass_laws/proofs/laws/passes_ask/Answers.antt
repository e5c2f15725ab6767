use Rattle.pass_laws.proofs.FirstAsked.{asks-first}
use Rattle.pass_laws.proofs.laws.passes_ask.Goals as goal

pub returns : goal.returns
returns c = asks-first
