use Rattle.course_laws.proofs.Kept.{judged-keeps, no-head-keeps}
use Rattle.course_laws.proofs.laws.courses_keep_their_duties.Goals as goal

pub returns-clause-requests : goal.returns-clause-requests
returns-clause-requests c = judged-keeps

pub returns-clause-no_heads : goal.returns-clause-no_heads
returns-clause-no_heads c = no-head-keeps
