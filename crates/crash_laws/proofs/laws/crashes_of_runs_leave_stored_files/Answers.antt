use Rattle.crash_laws.proofs.Stored.{run-stored}
use Rattle.crash_laws.proofs.laws.crashes_of_runs_leave_stored_files.Goals as goal

pub returns : goal.returns
returns c = run-stored
