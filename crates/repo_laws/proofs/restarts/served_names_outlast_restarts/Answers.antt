use Rattle.repo_laws.proofs.Joined.{closed-across}
use Rattle.repo_laws.proofs.restarts.served_names_outlast_restarts.Goals as goal

pub returns : goal.returns
returns c = closed-across
