use Rattle.naming_laws.proofs.Left.{draft-left, lease-left}
use Rattle.naming_laws.proofs.ends.what_is_left_was_given.Goals as goal

pub returns-clause-drafts : goal.returns-clause-drafts
returns-clause-drafts c = draft-left

pub returns-clause-leases : goal.returns-clause-leases
returns-clause-leases c = lease-left
