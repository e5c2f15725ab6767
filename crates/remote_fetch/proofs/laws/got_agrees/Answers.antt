use Rattle.remote_fetch.proofs.Causes.{fetch-got}
use Rattle.remote_fetch.proofs.laws.got_agrees.Goals as goal

pub returns : goal.returns
returns c = fetch-got
