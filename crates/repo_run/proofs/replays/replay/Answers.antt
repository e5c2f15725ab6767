-- The settings are read, and served by; or not.
use Rattle.std.proofs.Common.{refl}
use Rattle.repo_run.specs.Replay.{refused}
use Rattle.repo_run.specs.Surroundings.{output_seen}
use Rattle.repo_run.proofs.Reading.{replays-read}
use Rattle.repo_run.proofs.replays.replay.Goals as goal

pub returns-in-Ok : goal.returns-in-Ok
returns-in-Ok g c = replays-read _ _ c.in-Ok.settings _ _ _ (output_seen g.O.Tells c.settings_of.new.out) c.in-Ok.ensures (c.serve.ensures _ _)

pub returns-in-Err : goal.returns-in-Err
returns-in-Err g c = refused c.in-Err.ensures refl (refl, refl) refl
