use Rattle.served_laws.proofs.Kept.{entries-at}
use Rattle.served_laws.proofs.crashes.entries_at_are_made.Goals as goal

pub returns : goal.returns
returns c = entries-at
