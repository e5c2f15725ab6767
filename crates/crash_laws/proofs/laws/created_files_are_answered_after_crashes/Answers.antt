use Rattle.crash_laws.proofs.RunLaws.{created-again}
use Rattle.crash_laws.proofs.laws.created_files_are_answered_after_crashes.Goals as goal

pub returns : goal.returns
returns c = created-again
