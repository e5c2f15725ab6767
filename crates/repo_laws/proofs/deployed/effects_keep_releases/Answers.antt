use Rattle.repo_laws.proofs.Releases.{releases-kept, rightly-kept}
use Rattle.repo_laws.proofs.deployed.effects_keep_releases.Goals as goal

pub returns-clause-kept : goal.returns-clause-kept
returns-clause-kept c = releases-kept

pub returns-clause-fading : goal.returns-clause-fading
returns-clause-fading c = rightly-kept
