-- The repository is opened, the requests are answered and the lines printed; or it is not opened.
use Rattle.std.proofs.Common.{◌<◌, ◌^◌, refl, subst, ap, arith}
use Rattle.repo_course.specs.Serving.{AllTell}
use Rattle.repo_model.specs.Settings.{Settings}
use Rattle.run_desks.specs.Seen.{store_seen}
use Rattle.repo_run.specs.Begun.{Begins}
use Rattle.repo_run.specs.Demo.{not_started}
use Rattle.repo_run.specs.DemoSteps.{ShowsAll, resources}
use Rattle.repo_run.specs.Surroundings.{records_seen}
use Rattle.repo_core.specs.declared.faults.StartFault.TheVariants as start
use Rattle.repo_run.proofs.Demonstrated.{demonstrated}
use Rattle.repo_run.proofs.NotBegun.{not-begun}
use Rattle.repo_run.proofs.demo.demo.Goals as goal

pub returns-in-Err : goal.returns-in-Err
returns-in-Err g c source source' =
    not_started start.NoMemory (store_seen g.B.Blobs c.args.desk.now.blobs) (not-begun _ _) refl refl c.refuse_start-status.ensures

pub returns-in-Err-begin : goal.returns-in-Err-begin
returns-in-Err-begin g c source source' =
    not_started c.in-Err-begin.refusal (store_seen g.B.Blobs c.begin.new.blobs) c.in-Err-begin.ensures.err refl
    (ap g.C.Clock.moments c.in-Err-begin.ensures.clock) c.refuse_start-status-in-Err-begin.ensures

pub returns : goal.returns
returns g c source source' =
    let cleared = store_seen g.B.Blobs c.begin.new.blobs in
    let first = resources cleared (g.R.Remote.sees c.args.desk.now.remote) in
    let kept = resources (store_seen g.B.Blobs c.answer_all-shown.new.blobs) (g.R.Remote.sees c.answer_all-shown.new.remote) in
    let small : c.args.requests < 2 ^ 32 = omega arith in
    let begins = subst (λ (s : Settings). Begins s (records_seen g.K.Records c.args.records) (store_seen g.B.Blobs c.args.desk.now.blobs) cleared (g.C.Clock.moments c.args.clock) c.in-Ok-begin.core)
    c.in-Ok.ensures c.in-Ok-begin.ensures.ok in
    let shows = subst (λ (s : Settings). ShowsAll s (AllTell g.B.Held.Held.bytes) c.args.from c.args.requests c.in-Ok-begin.core c.answer_all-shown.new.core first kept c.answer_all-shown.result)
    c.in-Ok.ensures c.answer_all-shown.ensures in
    demonstrated (AllTell g.B.Held.Held.bytes) c.args.from c.args.requests small _ _ _ c.in-Ok-begin.core c.answer_all-shown.new.core c.tell_shown-status.new.core cleared kept
    begins refl (c.end-records.ensures.tables, c.end-records.ensures.faults, c.end-records.ensures.settled, c.end-records.ensures.rests) c.end-records.ensures.clock c.answer_all-shown.result shows c.tell_shown-status.ensures
