use Rattle.repo_laws.proofs.Deploying.{count-is, files-visible, poms-visible}
use Rattle.repo_laws.proofs.deployed.commits_deploy_all.Goals as goal

pub returns-clause-count : goal.returns-clause-count
returns-clause-count c = λ settings old e n k one sound. count-is settings old e n k one sound.order

pub returns-clause-files : goal.returns-clause-files
returns-clause-files c = λ settings old e n k one sound. files-visible settings old e n k one sound.order

pub returns-clause-poms : goal.returns-clause-poms
returns-clause-poms c = λ settings old e n k one sound. poms-visible settings old e n k one sound.order
