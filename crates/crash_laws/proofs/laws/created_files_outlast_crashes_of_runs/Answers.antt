use Rattle.crash_laws.proofs.RunLaws.{created-outlasts}
use Rattle.crash_laws.proofs.laws.created_files_outlast_crashes_of_runs.Goals as goal

pub returns : goal.returns
returns c = created-outlasts
