use Rattle.repo_laws.proofs.Moments.{moments-rising, moments-capped}
use Rattle.repo_laws.proofs.replies.moments_rise.Goals as goal

pub returns-clause-rising : goal.returns-clause-rising
returns-clause-rising c = moments-rising

pub returns-clause-capped : goal.returns-clause-capped
returns-clause-capped c = moments-capped
