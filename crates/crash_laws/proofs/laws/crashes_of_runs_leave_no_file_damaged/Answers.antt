use Rattle.crash_laws.proofs.Missed.{run-whole}
use Rattle.crash_laws.proofs.laws.crashes_of_runs_leave_no_file_damaged.Goals as goal

pub returns : goal.returns
returns c = run-whole
