use Rattle.repo_laws.proofs.Answered.{lease-given_back}
use Rattle.repo_laws.proofs.Drafts.{draft-dropped}
use Rattle.repo_laws.proofs.replies.giving_up_is_never_refused.Goals as goal

pub returns-clause-lease : goal.returns-clause-lease
returns-clause-lease c = lease-given_back

pub returns-clause-draft : goal.returns-clause-draft
returns-clause-draft c = draft-dropped
