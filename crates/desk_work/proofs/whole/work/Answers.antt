use Rattle.std.proofs.Common.{arith}
use Rattle.run_desks.specs.Seen.{run_resources, looks}
use Rattle.seat_server.specs.Rules.{rules}
use Rattle.desk_work.proofs.Done.{done_seats, worked}
use Rattle.desk_work.proofs.whole.work.Goals as goal

pub finish-requires-clause-others : goal.finish-requires-clause-others
finish-requires-clause-others g c =
    (done_seats (rules g.T.Thing g.T.Repository.sight) (looks g.P.Port g.P.Link.Tells g.B.Blobs g.B.Held.Held g.R.Remote) c.args.settings c.args.turns c.args.seat c.args.desks.items _ c.in-Ok-served.ensures.done).0

pub finish-requires-clause-parts : goal.finish-requires-clause-parts
finish-requires-clause-parts g c =
    let ones = (done_seats (rules g.T.Thing g.T.Repository.sight) (looks g.P.Port g.P.Link.Tells g.B.Blobs g.B.Held.Held g.R.Remote) c.args.settings c.args.turns c.args.seat c.args.desks.items _ c.in-Ok-served.ensures.done).1 in
    let all = c.in-Ok-served.ensures.parts in
    let whole = c.requires.parts in
    omega (arith, ones, all, whole)

pub returns-in-Ok-served-clause-works : goal.returns-in-Ok-served-clause-works
returns-in-Ok-served-clause-works g c done =
    rw c.finish.ensures.cleaner (worked (rules g.T.Thing g.T.Repository.sight) c.what_is_seen_is_a_history.ensures (looks g.P.Port g.P.Link.Tells g.B.Blobs g.B.Held.Held g.R.Remote) c.args.settings c.args.turns c.args.seat _ _
    (run_resources g.B.Blobs g.Q.Pace c.args.desks.items c.args.cleaner) _ _ _ _ c.in-Ok-served.ensures.done c.in-Ok-served.ensures.cleaned c.finish.ensures.ended c.finish.ensures.desks c.finish.ensures.failed)
