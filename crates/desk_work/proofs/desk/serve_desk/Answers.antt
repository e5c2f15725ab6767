use Rattle.std.proofs.Common.{◌∙◌, refl}
use Rattle.run_desks.specs.Seen.{looks}
use Rattle.seat_server.specs.Rules.{rules}
use Rattle.desk_work.proofs.Visiting.{attended_none, attended_more}
use Rattle.desk_work.proofs.desk.serve_desk.Goals as goal

pub loop-init : goal.loop-init
loop-init g c = record {
  next = tt;
  finite = tt;
  port = refl;
  so_far = attended_none (looks g.P.Port g.P.Link.Tells g.B.Blobs g.B.Held.Held g.R.Remote) c.args.settings.now (rules g.T.Thing g.T.Repository.sight) c.args.turns.now c.args.seat c.args.desk.now c.requires.seat;
}

pub loop-preserved : goal.loop-preserved
loop-preserved g c =
    let s = c.serve_with-next.ensures.serves in
    record {
      next = tt;
      finite = tt;
      port = c.back.ensures.faults ∙ c.in-Ok-Some.ensures.cause ∙ c.loop.invariant.port;
      so_far = attended_more (looks g.P.Port g.P.Link.Tells g.B.Blobs g.B.Held.Held g.R.Remote) c.args.settings.now (rules g.T.Thing g.T.Repository.sight) c.args.turns.now
          c.args.seat c.loop.seat c.serve_with-next.result.0 c.args.desk.now c.loop.desk (record { port = c.back.new.self; blobs = c.serve_with-next.new.blobs; remote = c.serve_with-next.new.remote }) c.next-in-loop.new.self
          c.in-Ok-Some.link c.serve_with-next.new.stream s.0 c.serve_with-next.result.1 s.1 c.loop.invariant.so_far
          (rw c.in-Ok-Some.field-0-is at c.in-Ok-Some.ensures.given) c.next-in-loop.ensures.given_back c.back.ensures.left c.back.ensures.given_back s.3 s.2;
    }
