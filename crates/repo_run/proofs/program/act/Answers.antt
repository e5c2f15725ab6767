-- What each command does, beside what it leaves alone.
use Rattle.std.proofs.Common.{None, refl, ap}
use Rattle.repo_course.specs.Cleaning.{store}
use Rattle.run_lines.specs.Reading.{file}
use Rattle.repo_run.proofs.FirstDesk.{desk_of}
use Rattle.repo_run.proofs.Statuses.{demo-ends}
use Rattle.repo_run.proofs.program.act.Goals as goal

pub returns-in-Replay-clause-run : goal.returns-in-Replay-clause-run
returns-in-Replay-clause-run g c = rw c.in-Replay.is (c.replay.ensures, refl)

pub returns-in-Check-clause-run : goal.returns-in-Check-clause-run
returns-in-Check-clause-run g c =
    let desk = c.args.desk.now in
    let looked = c.check-status.ensures in
    let kept = ap (λ shelf. desk_of (g.P.Port.left desk.port) (g.P.Port.given_back desk.port) (g.P.Port.faults desk.port)
    (record { blobs = store shelf (g.B.Blobs.faults c.check-status.new.blobs); remote = g.R.Remote.sees desk.remote })) looked.kept in
    rw c.in-Check.is ((looked.checks, kept, looked.tables, refl), refl)

pub returns-in-Clean-clause-run : goal.returns-in-Clean-clause-run
returns-in-Clean-clause-run g c = rw c.in-Clean.is (c.clean.ensures, refl, refl)

pub returns-in-Demo-clause-run : goal.returns-in-Demo-clause-run
returns-in-Demo-clause-run g c = rw c.in-Demo.is (c.demo.ensures _ _, refl, refl)

pub returns-in-Demo-clause-status : goal.returns-in-Demo-clause-status
returns-in-Demo-clause-status g c = rw c.in-Demo.is (demo-ends _ _ _ _ _ _ (c.demo.ensures (file None 0) (file None 0)))
