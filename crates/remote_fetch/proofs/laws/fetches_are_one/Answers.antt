use Rattle.remote_fetch.proofs.Fetches.{fetch-unique}
use Rattle.remote_fetch.proofs.laws.fetches_are_one.Goals as goal

pub returns : goal.returns
returns c = fetch-unique
