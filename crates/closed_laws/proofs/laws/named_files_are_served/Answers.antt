use Rattle.repo_course.specs.Serving.{AllTell}
use Rattle.repo_course.specs.Course.{mode_for}
use Rattle.closed_laws.proofs.AnsweredReads.{turn-looked}
use Rattle.closed_laws.proofs.FirstLooks.{turn-answered}
use Rattle.closed_laws.proofs.NamedServed.{file-answered, file-looked, side-answered, side-looked}
use Rattle.closed_laws.proofs.laws.named_files_are_served.Goals as goal

pub returns-clause-files : goal.returns-clause-files
returns-clause-files g c settings start before later e repo tried row last more old new ending apart sound legal was turned looks =
    file-answered settings apart start sound before repo row later e tried last old new ending legal was looks
    (turn-answered settings (AllTell g.H.Held.bytes) last e more repo row.path tried looks old new ending turned)

pub returns-clause-sides : goal.returns-clause-sides
returns-clause-sides g c settings start before later e repo at tried side row last more old new ending apart sound legal was turned looks beside =
    side-answered settings apart start sound before repo row later e at tried side last old new ending legal was looks beside
    (turn-answered settings (AllTell g.H.Held.bytes) last e more repo at tried looks old new ending turned)

pub returns-clause-file_requests : goal.returns-clause-file_requests
returns-clause-file_requests g c settings start before entries later repo row last old new ending input rest of_sort head request apart sound turned input_is front_is judged asks =
    file-looked settings apart start sound before repo row entries later (mode_for request last) rest old new ending
    (turn-looked settings (AllTell g.H.Held.bytes) last entries old new ending input rest repo row.path of_sort head request turned input_is front_is judged asks)

pub returns-clause-side_requests : goal.returns-clause-side_requests
returns-clause-side_requests g c settings start before entries later repo at side row last old new ending input rest of_sort head request apart sound beside turned input_is front_is judged asks =
    side-looked settings apart start sound before repo row entries later at side (mode_for request last) rest old new ending beside
    (turn-looked settings (AllTell g.H.Held.bytes) last entries old new ending input rest repo at of_sort head request turned input_is front_is judged asks)
