use Rattle.repo_course.specs.Serving.{AllTell}
use Rattle.closed_laws.proofs.FirstLooks.{turn-answered}
use Rattle.closed_laws.proofs.AnsweredReads.{turn-looked}
use Rattle.closed_laws.proofs.laws.reads_are_answered.Goals as goal

pub returns-clause-requests : goal.returns-clause-requests
returns-clause-requests g c settings last = turn-looked settings (AllTell g.H.Held.bytes) last

pub returns-clause-looks : goal.returns-clause-looks
returns-clause-looks g c settings last e more old new end repo path tried turned looks =
    turn-answered settings (AllTell g.H.Held.bytes) last e more repo path tried looks old new end turned
