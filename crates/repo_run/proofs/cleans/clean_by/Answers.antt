-- The repository is opened, and one pass made over it; or it is not opened.
use Rattle.std.proofs.Common.{ap}
use Rattle.run_desks.specs.Seen.{store_seen}
use Rattle.repo_run.specs.Clean.{not_started, passed}
use Rattle.repo_run.proofs.cleans.clean_by.Goals as goal

pub returns-in-Err : goal.returns-in-Err
returns-in-Err g c source source' = not_started c.in-Err.refusal c.in-Err.ensures.err (ap g.C.Clock.moments c.in-Err.ensures.clock) c.refuse_start-status.ensures

pub returns : goal.returns
returns g c source source' =
    let pass = c.clean_pass-pass.ensures.passes in
    passed c.in-Ok.core c.clean_pass-pass.new.asker (store_seen g.B.Blobs c.begin.new.blobs) pass.0 c.clean_pass-pass.result
    c.in-Ok.ensures.ok pass.1 pass.3 (c.end-records.ensures.tables, c.end-records.ensures.faults, c.end-records.ensures.settled, c.end-records.ensures.rests) c.end-records.ensures.clock c.tell_pass-status.ensures
