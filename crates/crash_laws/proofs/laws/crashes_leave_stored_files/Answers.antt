use Rattle.crash_laws.proofs.Stored.{left-stored}
use Rattle.crash_laws.proofs.laws.crashes_leave_stored_files.Goals as goal

pub returns : goal.returns
returns c = left-stored
