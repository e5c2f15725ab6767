use Rattle.repo_model.specs.Shown.{shown_command, shown_reply}
use Rattle.run_desks.specs.Seen.{looks}
use Rattle.seat_server.specs.Rules.{rules}
use Rattle.desk_work.proofs.Done.{all_ready, jobs_done}
use Rattle.desk_work.proofs.running.serve_all.Goals as goal

pub run_jobs-requires-clause-jobs : goal.run_jobs-requires-clause-jobs
run_jobs-requires-clause-jobs g c κs within =
    all_ready (rules g.T.Thing g.T.Repository.sight) (λ house. house.turns) (λ house. house.settings) c.args.house.now (λ job. job.house.now) (λ job. job.seat) c.args.seat
    shown_command shown_reply c.requires.ready c.seated-jobs.result.items c.seated-jobs.ensures.jobs

pub returns-clause-done : goal.returns-clause-done
returns-clause-done g c =
    rw (← c.seated-jobs.ensures.desks) (jobs_done (rules g.T.Thing g.T.Repository.sight) (λ house. house.turns) (λ house. house.settings) c.args.house.now (λ job. job.house.now) (λ job. job.seat) c.args.seat
    (looks g.P.Port g.P.Link.Tells g.B.Blobs g.B.Held.Held g.R.Remote) (λ job. job.desk) c.seated-jobs.result.items c.run_jobs.result.0.items c.seated-jobs.ensures.jobs c.run_jobs.ensures.served)
