use Rattle.crash_laws.proofs.RunLaws.{entry-outlasts}
use Rattle.crash_laws.proofs.laws.files_outlast_crashes_of_runs.Goals as goal

pub returns : goal.returns
returns c = entry-outlasts
