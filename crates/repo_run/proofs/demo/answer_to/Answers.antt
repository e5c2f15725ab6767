-- The connection gives the request, and has taken the answer.
use Rattle.std.proofs.Common.{Some, [], refl, subst}
use Rattle.outside.specs.Told.{in_front}
use Rattle.repo_course.specs.Serving.{AllTell, ServesStream}
use Rattle.run_desks.specs.Seen.{store_seen}
use Rattle.repo_run.specs.DemoSteps.{resources}
use Rattle.repo_run.specs.Surroundings.{Connection, outside_at, outside_with, served}
use Rattle.repo_run.proofs.demo.answer_to.Goals as goal

pub returns-clause-ok : goal.returns-clause-ok
returns-clause-ok g c =
    let s = c.serve_stream-ending.ensures.serves in
    let link = c.serve_stream-ending.new.stream in
    let before = resources (store_seen g.B.Blobs c.args.blobs.now) (g.R.Remote.sees c.args.remote.now) in
    let after = resources (store_seen g.B.Blobs c.serve_stream-ending.new.blobs) (g.R.Remote.sees c.serve_stream-ending.new.remote) in
    let connection : Connection = record { left = Some link.source.left; taken = Some link.sink.taken; read_faults = link.source.script.faults; write_faults = link.sink.script.faults } in (
      s.1,
      s.2,
      record {
        connection = connection;
        taken = refl;
        held = s.0;
        serves = subst (λ (k : Connection). ServesStream c.args.settings.now (AllTell g.B.Held.Held.bytes) 1000 s.1 (outside_at (in_front [] k.left) k before) (outside_with s.0 (served connection after)) c.serve_stream-ending.result)
            c.in_ok-link.ensures s.4;
      },
    )
