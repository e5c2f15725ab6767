use Rattle.crash_laws.proofs.Missed.{recorded-kept}
use Rattle.crash_laws.proofs.laws.recorded_files_are_not_given_out.Goals as goal

pub returns : goal.returns
returns c = recorded-kept
