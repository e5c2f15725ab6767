use Rattle.crash_laws.proofs.Outlasting.{outlasts-crashes}
use Rattle.crash_laws.proofs.laws.rows_outlast_crashes.Goals as goal

pub returns : goal.returns
returns c = outlasts-crashes
