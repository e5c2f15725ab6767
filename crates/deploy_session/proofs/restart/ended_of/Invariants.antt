use Rattle.std.proofs.Common.{◌≡◌, take}
use Rattle.repo_model.specs.Restart.{sessions_from}
use Rattle.row_tables.specs.Stored as stored
use Rattle.deploy_session.specs.Shown.{shown_sessions}
use Rattle.deploy_session.proofs.restart.ended_of.Given as goal

abbrev pub invariant-loop-row : goal.invariant-loop-row
invariant-loop-row g l = shown_sessions l.known.entries ≡ sessions_from (stored.shown_sessions (take l.row-index l.rows))
