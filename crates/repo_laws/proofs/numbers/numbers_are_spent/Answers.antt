use Rattle.std.proofs.Common.{refl}
use Rattle.repo_laws.proofs.Answered.{drafts-spent, staged-spent, leases-spent, sessions-spent}
use Rattle.repo_laws.proofs.numbers.numbers_are_spent.Goals as goal

pub returns-clause-end : goal.returns-clause-end
returns-clause-end c = refl

pub returns-clause-drafts : goal.returns-clause-drafts
returns-clause-drafts c = drafts-spent

pub returns-clause-staged : goal.returns-clause-staged
returns-clause-staged c = staged-spent

pub returns-clause-leases : goal.returns-clause-leases
returns-clause-leases c = leases-spent

pub returns-clause-sessions : goal.returns-clause-sessions
returns-clause-sessions c = sessions-spent
