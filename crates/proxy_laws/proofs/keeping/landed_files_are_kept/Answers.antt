use Rattle.proxy_laws.proofs.Staying.{landed-kept}
use Rattle.proxy_laws.proofs.keeping.landed_files_are_kept.Goals as goal

pub returns : goal.returns
returns c = landed-kept
