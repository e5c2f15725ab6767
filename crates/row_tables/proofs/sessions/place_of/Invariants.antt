use Rattle.std.proofs.Common.{◌≡◌, find, drop, None}
use Rattle.repo_model.specs.Tables.{is_session}
use Rattle.row_tables.specs.Stored.{shown_sessions}
use Rattle.row_tables.proofs.sessions.place_of.Given as goal

abbrev pub invariant-loop-place : goal.invariant-loop-place
invariant-loop-place l = find (is_session l.number) (shown_sessions (drop l.place l.sessions)) ≡ None
