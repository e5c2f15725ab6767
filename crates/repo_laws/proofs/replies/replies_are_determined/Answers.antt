use Rattle.std.proofs.Common.{List, map, ap}
use Rattle.repo_model.specs.History.{Entry, end}
use Rattle.repo_laws.proofs.Answered.{reply-determined, state-determined, histories_same}
use Rattle.repo_laws.proofs.replies.replies_are_determined.Goals as goal

pub returns-clause-reply : goal.returns-clause-reply
returns-clause-reply c = reply-determined

pub returns-clause-state : goal.returns-clause-state
returns-clause-state c = state-determined

pub returns-clause-replies : goal.returns-clause-replies
returns-clause-replies c = λ settings start one other legal legal' alike.
    ap (λ (entries : List Entry). map (λ e. e.reply) entries) (histories_same settings start one other legal legal' alike)

pub returns-clause-ends : goal.returns-clause-ends
returns-clause-ends c = λ settings start one other legal legal' alike. ap (end settings start) (histories_same settings start one other legal legal' alike)
