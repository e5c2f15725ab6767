use Rattle.proxy_laws.proofs.Again.{never-again}
use Rattle.proxy_laws.proofs.keeping.landed_files_are_not_fetched_again.Goals as goal

pub returns : goal.returns
returns c = never-again
