use Rattle.served_laws.proofs.Runs.{clean-outlasts}
use Rattle.served_laws.proofs.crashes.cleanings_outlast_crashes.Goals as goal

pub returns : goal.returns
returns c = clean-outlasts
