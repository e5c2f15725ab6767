use Rattle.repo_laws.proofs.Faults.{fault-cause, no-fault}
use Rattle.repo_laws.proofs.replies.store_faults_have_a_cause.Goals as goal

pub returns-clause-cause : goal.returns-clause-cause
returns-clause-cause c = fault-cause

pub returns-clause-others : goal.returns-clause-others
returns-clause-others c = no-fault
