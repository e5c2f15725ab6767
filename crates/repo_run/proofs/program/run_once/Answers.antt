-- The words are carried out with the first desk, or memory ran out to read them.
use Rattle.std.proofs.Common.{ℕ, ◌<◌, subst, ap}
use Rattle.run_desks.specs.Seen.{looks}
use Rattle.repo_run.specs.declared.actions.Wanted.{Wanted}
use Rattle.repo_run.specs.Running.{at_desk}
use Rattle.repo_run.specs.Surroundings.{output_seen, view}
use Rattle.repo_run.proofs.FirstDesk.{first-same, first-set}
use Rattle.repo_run.proofs.Starved.{starved-run}
use Rattle.repo_run.proofs.program.run_once.Goals as goal

pub returns-in-Ok-clause-run : goal.returns-in-Ok-clause-run
returns-in-Ok-clause-run g c =
    let asked = ap (λ (w : Wanted). w.command) c.in-Ok.ensures in
    first-set c.args.desks.items c.index_mut.result.now c.act-status.new.desk _ (subst (λ (n : ℕ). 0 < n) c.args.desks.ok.0 c.requires) c.index_mut.ensures.value
    (rw asked at c.act-status.ensures.run)

pub returns-in-Err-clause-run : goal.returns-in-Err-clause-run
returns-in-Err-clause-run g c =
    let old = view g.S.Tells g.B.Blobs g.Q.Pace g.K.Records g.C.Clock g.O.Tells c.args.settings.now c.args.desks.items c.args.cleaner c.args.records c.args.clock c.args.out.now in
    first-same c.args.desks.items _ (subst (λ (n : ℕ). 0 < n) c.args.desks.ok.0 c.requires)
    (λ desk. starved-run (looks g.P.Port g.P.Link.Tells g.B.Blobs g.B.Held.Held g.R.Remote) _ (at_desk desk old) (output_seen g.O.Tells c.fault-status.new.out) _ c.fault-status.ensures.prints c.fault-status.ensures.status)
