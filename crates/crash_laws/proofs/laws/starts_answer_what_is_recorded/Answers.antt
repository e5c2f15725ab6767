use Rattle.crash_laws.proofs.Again.{answered-again}
use Rattle.crash_laws.proofs.laws.starts_answer_what_is_recorded.Goals as goal

pub returns : goal.returns
returns c = answered-again
