use Rattle.std.proofs.Common.{◌≡◌}
use Rattle.run_desks.specs.Seen.{looks}
use Rattle.seat_server.specs.Rules.{rules}
use Rattle.desk_work.specs.Visits.{Attended}
use Rattle.desk_work.proofs.desk.serve_desk.Given as goal

abbrev pub invariant-loop : goal.invariant-loop
invariant-loop g l = record {
  next : (goal.iterator-loop g).can_next l.iterator';
  finite : (goal.iterator-loop g).is_finite l.iterator';
  port : g.P.Port.faults l.desk.port ≡ g.P.Port.faults l.fn.desk.port;
  so_far : Attended (looks g.P.Port g.P.Link.Tells g.B.Blobs g.B.Held.Held g.R.Remote) (rules g.T.Thing g.T.Repository.sight) l.fn.settings l.fn.turns l.fn.seat l.seat l.fn.desk l.desk;
}
