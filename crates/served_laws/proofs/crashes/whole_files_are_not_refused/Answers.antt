use Rattle.served_laws.proofs.Refused.{not-refused}
use Rattle.served_laws.proofs.crashes.whole_files_are_not_refused.Goals as goal

pub returns : goal.returns
returns c shelf those loaded t damage told undamaged digested first = not-refused shelf those told loaded t damage undamaged digested first
