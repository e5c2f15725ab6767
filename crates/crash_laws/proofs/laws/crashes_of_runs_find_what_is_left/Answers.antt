use Rattle.crash_laws.proofs.RunLaws.{runs-find}
use Rattle.crash_laws.proofs.laws.crashes_of_runs_find_what_is_left.Goals as goal

pub returns : goal.returns
returns c = runs-find
