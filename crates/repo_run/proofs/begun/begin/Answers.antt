-- The copy of the settings is started by; or memory ran out for it.
use Rattle.std.proofs.Common.{subst, sym}
use Rattle.repo_config.specs.Form.{IsSettings}
use Rattle.repo_model.specs.Settings.{Settings}
use Rattle.run_desks.specs.Seen.{store_seen}
use Rattle.repo_run.specs.Begun.{Begins}
use Rattle.repo_run.specs.Surroundings.{records_seen}
use Rattle.repo_run.proofs.NotBegun.{not-begun}
use Rattle.repo_run.proofs.begun.begin.Goals as goal

pub returns-in-Ok-start-clause-ok : goal.returns-in-Ok-start-clause-ok
returns-in-Ok-start-clause-ok g c =
    let s = c.in-Ok-start.ensures in
    subst (λ (own : Settings). Begins own (records_seen g.K.Records c.args.records) (store_seen g.B.Blobs c.args.blobs.now) (store_seen g.B.Blobs c.start.new.blobs)
    (g.C.Clock.moments c.args.clock) c.in-Ok-start.core) c.in-Ok.ensures
    (record {
      form = subst IsSettings (sym c.in-Ok.ensures) c.form.ensures;
      tables = s.state.0;
      completed = s.state.1;
      starts = s.state.3;
      settings_are = s.settings;
      tables_are = s.state.2;
      digested = s.tables;
      calls_are = s.calls;
      settled = s.settled;
      rests = s.rests;
      still = s.still;
      opens = s.opening;
    })

pub returns-in-Err-start-clause-err : goal.returns-in-Err-start-clause-err
returns-in-Err-start-clause-err g c =
    let e = c.in-Err-start.ensures in
    record {
      cause = e.cause;
      tables = e.records;
      refused = e.refused;
      unread = e.unread;
      damaged = e.damaged;
      shelf = e.shelf;
    }

pub returns-in-Err-clause-err : goal.returns-in-Err-clause-err
returns-in-Err-clause-err g c = not-begun _ _
