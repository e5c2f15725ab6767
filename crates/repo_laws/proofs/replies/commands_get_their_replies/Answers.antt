use Rattle.repo_laws.proofs.Answered.{turn-can_get, reply-can_get}
use Rattle.repo_laws.proofs.replies.commands_get_their_replies.Goals as goal

pub returns-clause-turn : goal.returns-clause-turn
returns-clause-turn c = turn-can_get

pub returns-clause-entry : goal.returns-clause-entry
returns-clause-entry c = reply-can_get
