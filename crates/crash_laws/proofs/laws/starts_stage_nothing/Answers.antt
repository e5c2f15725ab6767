use Rattle.crash_laws.proofs.Begun.{starts-staged}
use Rattle.crash_laws.proofs.laws.starts_stage_nothing.Goals as goal

pub returns : goal.returns
returns c = starts-staged
