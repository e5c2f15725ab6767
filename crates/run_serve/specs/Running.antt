-- What a run of the program does, by what its words ask for: a server serves, and every other word is done once.
use Rattle.std.specs.Prelude.{ℕ, List}
use Rattle.repo_run.specs.declared.actions.Action.{Action}
use Rattle.repo_run.specs.declared.actions.Action.TheVariants.{Serve}
use Rattle.repo_core.specs.Whole.{Whole}
use Rattle.run_desks.specs.Seen.{RunResources, Looks}
use Rattle.repo_run.specs.Running.{Runs}
use Rattle.repo_run.specs.Status.{IsStatusOfOpening, MatchAction}
use Rattle.repo_run.specs.Surroundings.{View}
use Rattle.seat_server.specs.Rules.{Rules}
use Rattle.run_serve.specs.Serving.{Serves}

-- the one where the words are a server's, else the other
abbrev pub ByWords : Action → Type 0 → Type 0 → Type 0
ByWords Serve serves once = serves
ByWords command serves once = once

-- the statuses that a run may end with: a server's are those of a repository that is opened
abbrev pub MatchRun : Action → ℕ → Type 0
MatchRun command status = ByWords command (IsStatusOfOpening status) (MatchAction command status)

-- what a run does
abbrev pub RunsBy : {L P D C R : Type 0} → Looks L P D → Rules Whole C R → Action → View (RunResources (List D)) → View (RunResources (List D)) → ℕ → Type 0
RunsBy looks rules command old new status = ByWords command (Serves looks rules old new status) (Runs looks command old new status)
