-- What comes of work is told; or there was no memory to begin.
use Rattle.std.proofs.Common.{ap, ◌∙◌}
use Rattle.run_desks.specs.Seen.{run_resources}
use Rattle.run_serve.proofs.Outcomes.{served}
use Rattle.run_serve.proofs.serving.serve_core.Goals as goal

pub returns : goal.returns
returns g c =
    let did = c.work-desks.result in
    let first = c.in-Ok.ensures.first in
    let end = c.end-records-2.ensures in
    record {
      serves = λ source. served _ _ _ _ _ _ _ _ c.in-Ok.begun.0 c.in-Ok.begun.1 did.repository did.calls did.failed
          (c.in-Ok.ensures.turns, first.0, first.1, first.2) (end.tables, end.faults, end.settled, end.rests) end.clock did.refused
          (λ none. let was = c.work-desks.ensures.refused none in
          (ap (λ desks. run_resources g.B.Blobs g.Q.Pace desks did.cleaner) was.0 ∙ ap (λ cleaner. run_resources g.B.Blobs g.Q.Pace c.args.desks.items cleaner) was.1, was.2, was.3))
          (λ some. c.work-desks.ensures.works some) c.tell_work-status.ensures;
    }
