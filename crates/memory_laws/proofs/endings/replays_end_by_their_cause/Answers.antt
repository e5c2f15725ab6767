use Rattle.memory_laws.proofs.Statuses.{ends-so}
use Rattle.memory_laws.proofs.endings.replays_end_by_their_cause.Goals as goal

pub returns : goal.returns
returns g c old new status replays = ends-so _ _ old new status replays
