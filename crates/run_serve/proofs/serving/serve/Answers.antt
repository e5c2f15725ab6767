-- The settings are read, and served by; or not.
use Rattle.repo_run.specs.Surroundings.{output_seen}
use Rattle.run_serve.proofs.Outcomes.{serves-read}
use Rattle.run_serve.proofs.serving.serve.Goals as goal

pub returns-in-Ok : goal.returns-in-Ok
returns-in-Ok g c = record { serves = serves-read _ _ c.in-Ok.settings _ _ _ (output_seen g.O.Tells c.settings_of.new.out) c.in-Ok.ensures (c.serve_by.ensures.serves _ _) }
