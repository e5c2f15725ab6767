use Rattle.repo_run.proofs.Drawn.{sound-drawn}
use Rattle.repo_run.proofs.laws.sound_numbers_are_drawn.Goals as goal

pub returns : goal.returns
returns c settings s sound = sound-drawn settings s sound
