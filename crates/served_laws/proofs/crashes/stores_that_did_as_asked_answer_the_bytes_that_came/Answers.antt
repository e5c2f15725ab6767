use Rattle.served_laws.proofs.Kept.{bytes-stand}
use Rattle.served_laws.proofs.crashes.stores_that_did_as_asked_answer_the_bytes_that_came.Goals as goal

pub returns : goal.returns
returns c = bytes-stand
