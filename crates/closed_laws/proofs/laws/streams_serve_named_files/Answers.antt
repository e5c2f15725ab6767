use Rattle.std.proofs.Common.{[]}
use Rattle.repo_model.specs.State.{opening}
use Rattle.repo_laws.proofs.Keeping.{opens-sound}
use Rattle.repo_course.specs.Serving.{AllTell}
use Rattle.closed_laws.proofs.NamedStreams.{stream-after, stream-shows}
use Rattle.closed_laws.proofs.laws.streams_serve_named_files.Goals as goal

pub returns-clause-among_others : goal.returns-clause-among_others
returns-clause-among_others g c settings n start entries old new ending apart sound served =
    stream-shows settings (AllTell g.H.Held.bytes) apart start sound n entries old new ending served

pub returns-clause-alone : goal.returns-clause-alone
returns-clause-alone g c settings n start before entries old new ending apart sound legal served =
    stream-after settings (AllTell g.H.Held.bytes) apart start sound n before entries old new ending legal served

pub returns-clause-first : goal.returns-clause-first
returns-clause-first g c settings n clock entries old new ending apart legal served =
    stream-after settings (AllTell g.H.Held.bytes) apart (opening settings clock) (opens-sound settings clock) n [] entries old new ending legal served
