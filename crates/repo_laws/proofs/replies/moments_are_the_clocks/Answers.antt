use Rattle.std.proofs.Common.{refl}
use Rattle.repo_laws.proofs.Faults.{moment-told, clock-left}
use Rattle.repo_laws.proofs.replies.moments_are_the_clocks.Goals as goal

pub returns-clause-told : goal.returns-clause-told
returns-clause-told c = moment-told

pub returns-clause-left : goal.returns-clause-left
returns-clause-left c = clock-left

pub returns-clause-latest : goal.returns-clause-latest
returns-clause-latest c = refl
