use Rattle.remote_fetch.proofs.Causes.{fetch-cause}
use Rattle.remote_fetch.proofs.laws.faults_have_causes.Goals as goal

pub returns : goal.returns
returns c = fetch-cause
