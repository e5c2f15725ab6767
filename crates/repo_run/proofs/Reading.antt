-- Settings that were read, and nothing printed: what is done by them is done by those who read them.
use Rattle.std.proofs.Common.{ℕ, Ok, refl, subst}
use Rattle.outside.specs.declared.tells.Tells.{Ghosts as Telling}
use Rattle.repo_course.specs.Cleaning.{Store}
use Rattle.repo_model.specs.Settings.{Settings}
use Rattle.run_lines.specs.Printing.{Output}
use Rattle.run_lines.specs.Reading.{Reads}
use Rattle.repo_run.specs.Clean as clean
use Rattle.repo_run.specs.Clean.{Cleans, CleansBy}
use Rattle.repo_run.specs.Replay as replay
use Rattle.repo_run.specs.Replay.{Replays, ReplaysBy}
use Rattle.repo_run.specs.Surroundings.{DeskState, View}

pub cleans-read : (settings : Settings) (old new : View Store) (status : ℕ) (mid : Output) → Reads old.source new.source old.out mid (Ok settings)
    → Cleans settings (record old { out = mid }) new status → CleansBy old new status
cleans-read settings old new status mid reads cleans =
    clean.accepted settings (reads.0, reads.1, refl) (subst (λ (o : Output). Cleans settings (record old { out = o }) new status) reads.2 cleans)

pub replays-read : {X : Type 0} (tells : Type 0) (links : Telling X) (settings : Settings) (old new : View (DeskState X)) (status : ℕ) (mid : Output)
    → Reads old.source new.source old.out mid (Ok settings) → Replays tells links settings (record old { out = mid }) new status → ReplaysBy tells links old new status
replays-read tells links settings old new status mid reads replays =
    replay.accepted settings (reads.0, reads.1, refl) (subst (λ (o : Output). Replays tells links settings (record old { out = o }) new status) reads.2 replays)
