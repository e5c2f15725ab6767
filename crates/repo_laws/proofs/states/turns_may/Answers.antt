use Rattle.std.proofs.Common.{refl}
use Rattle.repo_laws.proofs.Turns.{turn-can}
use Rattle.repo_laws.proofs.Orderly.{sound-kept}
use Rattle.repo_laws.proofs.states.turns_may.Goals as goal

pub returns-clause-turn : goal.returns-clause-turn
returns-clause-turn c = λ settings now s command apart sound fits. turn-can settings.grace now settings s sound apart command fits refl

pub returns-clause-effect : goal.returns-clause-effect
returns-clause-effect c = sound-kept
