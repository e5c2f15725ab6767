use Rattle.course_laws.proofs.Complete.{judged-complete, no-head-complete}
use Rattle.course_laws.proofs.laws.courses_are_complete.Goals as goal

pub returns-clause-requests : goal.returns-clause-requests
returns-clause-requests c = judged-complete

pub returns-clause-no_heads : goal.returns-clause-no_heads
returns-clause-no_heads c = no-head-complete
