use Rattle.repo_laws.proofs.Keeping.{opens-sound, keeps-sound, ends-sound}
use Rattle.repo_laws.proofs.states.states_stay_sound.Goals as goal

pub returns-clause-opening : goal.returns-clause-opening
returns-clause-opening c = opens-sound

pub returns-clause-entry : goal.returns-clause-entry
returns-clause-entry c = λ settings old e apart sound fits. keeps-sound settings apart old e sound fits

pub returns-clause-history : goal.returns-clause-history
returns-clause-history c = λ settings start entries apart sound legal. ends-sound settings apart start entries sound legal
