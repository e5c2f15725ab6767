-- A server serves; or memory ran out for the words, and nothing was done.
use Rattle.std.proofs.Common.{ℕ, ◌<◌, ◌∙◌, ap, refl, subst, sym}
use Rattle.run_desks.specs.Seen.{looks}
use Rattle.repo_run.specs.declared.actions.Wanted.{Wanted}
use Rattle.repo_run.specs.Running.{at_desk}
use Rattle.repo_run.specs.Surroundings.{output_seen, view}
use Rattle.repo_run.proofs.FirstDesk.{first-same}
use Rattle.repo_run.proofs.Starved.{starved-run, unread-source}
use Rattle.run_serve.specs.Serving.{unread}
use Rattle.run_serve.proofs.Words.{either}
use Rattle.run_serve.proofs.program.run.Goals as goal

pub returns-in-Serve-clause-run : goal.returns-in-Serve-clause-run
returns-in-Serve-clause-run g c =
    let asked = ap (λ (w : Wanted). w.command) c.in-Ok.ensures in
    rw (sym asked ∙ c.in-Serve.is) c.serve.ensures.serves

pub returns-clause-run : goal.returns-clause-run
returns-clause-run g c =
    let old = view g.S.Tells g.B.Blobs g.Q.Pace g.K.Records g.C.Clock g.O.Tells c.args.settings.now c.args.desks.items c.args.cleaner c.args.records c.args.clock c.args.out.now in
    let out' = output_seen g.O.Tells c.fault-status.new.out in
    either _ _ _
    (unread (unread-source old.source old.out out' _ c.fault-status.ensures.prints c.fault-status.ensures.status) refl (refl, refl) refl)
    (first-same c.args.desks.items _ (subst (λ (n : ℕ). 0 < n) c.args.desks.ok.0 c.requires.desks)
    (λ desk. starved-run (looks g.P.Port g.P.Link.Tells g.B.Blobs g.B.Held.Held g.R.Remote) _ (at_desk desk old) out' _ c.fault-status.ensures.prints c.fault-status.ensures.status))

pub returns-clause-pace : goal.returns-clause-pace
returns-clause-pace g c = either _ _ _ tt refl
