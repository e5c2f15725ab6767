-- The repository is opened, serves the desk's first connection, and the line tells how it ended; or it is not opened.
use Rattle.std.proofs.Common.{ℕ, refl, subst, ap}
use Rattle.repo_course.specs.Serving.{AllTell}
use Rattle.run_desks.specs.Seen.{looks, store_seen}
use Rattle.repo_run.specs.Replay.{ReportsFirst, not_started}
use Rattle.repo_run.specs.Surroundings.{desk_state, output_seen, view_of}
use Rattle.repo_run.proofs.Served.{replays}
use Rattle.repo_run.proofs.replays.serve.Goals as goal

pub returns : goal.returns
returns g c source source' =
    let seen = looks g.P.Port g.P.Link.Tells g.B.Blobs g.B.Held.Held g.R.Remote in
    let out = output_seen g.O.Tells c.args.out.now in
    let out' = output_seen g.O.Tells c.report_first-status.new.out in
    replays (AllTell g.B.Held.Held.bytes) c.args.settings.now c.form.ensures g.P.Link.Tells
    (view_of g.K.Records g.C.Clock g.O.Tells source (desk_state seen c.args.desk.now) c.args.records c.args.clock c.args.out.now)
    (view_of g.K.Records g.C.Clock g.O.Tells source' (desk_state seen c.serve_first-ended.new.desk) c.end-records.result.0 c.end-records.result.1 c.report_first-status.new.out)
    c.report_first-status.result
    (store_seen g.B.Blobs c.begin.new.blobs) c.in-Ok.core c.serve_first-ended.new.core c.serve_first-ended.result c.in-Ok.ensures.ok c.serve_first-ended.ensures
    c.end-records.ensures.clock (c.end-records.ensures.tables, c.end-records.ensures.faults, c.end-records.ensures.settled, c.end-records.ensures.rests)
    (subst (λ (n : ℕ). ReportsFirst c.serve_first-ended.result n out out' c.report_first-status.result) c.calls.ensures c.report_first-status.ensures)

pub returns-in-Err : goal.returns-in-Err
returns-in-Err g c source source' =
    not_started c.in-Err.refusal (store_seen g.B.Blobs c.begin.new.blobs) c.in-Err.ensures.err refl
    (ap g.C.Clock.moments c.in-Err.ensures.clock) c.refuse_start-status.ensures
