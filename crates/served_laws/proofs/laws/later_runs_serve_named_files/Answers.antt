use Rattle.repo_course.specs.Serving.{AllTell}
use Rattle.run_desks.specs.Seen.{looks}
use Rattle.served_laws.specs.Restarted.{ShowsWhatWasNamedIn}
use Rattle.served_laws.proofs.Across.{shows-later}
use Rattle.served_laws.proofs.Showing.{desks-again, turned-shows}
use Rattle.served_laws.proofs.laws.later_runs_serve_named_files.Goals as goal

pub returns-clause-desks : goal.returns-clause-desks
returns-clause-desks g c settings tables earlier between later desks back apart sound order holds legal follow shown =
    desks-again (looks g.P.Port g.P.Link.Tells g.B.Blobs g.B.Held.Held g.R.Remote) settings (ShowsWhatWasNamedIn settings earlier.start earlier.entries later.start) later.entries
    (λ before more rest e from turn is parts turned.
    shows-later settings apart tables earlier between later sound order holds legal follow (AllTell g.B.Held.Held.bytes) before more rest e from turn is parts turned)
    _ desks back shown

pub returns-clause-alone : goal.returns-clause-alone
returns-clause-alone g c settings tables earlier between later old new ending apart sound order holds legal follow shown =
    turned-shows settings (AllTell g.B.Held.Held.bytes) (ShowsWhatWasNamedIn settings earlier.start earlier.entries later.start) later.entries
    (λ before more rest e from turn is parts turned.
    shows-later settings apart tables earlier between later sound order holds legal follow (AllTell g.B.Held.Held.bytes) before more rest e from turn is parts turned)
    later.entries old new ending shown
