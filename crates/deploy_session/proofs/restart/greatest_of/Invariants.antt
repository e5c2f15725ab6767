use Rattle.std.proofs.Common.{◌≡◌, take}
use Rattle.row_tables.specs.Stored.{shown_sessions}
use Rattle.deploy_session.proofs.RestartLemmas.{greatest_from}
use Rattle.deploy_session.proofs.restart.greatest_of.Given as goal

abbrev pub invariant-loop-row : goal.invariant-loop-row
invariant-loop-row l = l.greatest ≡ greatest_from 0 (shown_sessions (take l.row-index l.rows))
