use Rattle.remote_fetch.proofs.Fetches.{fetch-short}
use Rattle.remote_fetch.proofs.laws.fetches_are_short.Goals as goal

pub returns : goal.returns
returns c = fetch-short
