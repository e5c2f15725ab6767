use Rattle.run_desks.specs.Seen.{cleaner_resources}
use Rattle.seat_server.specs.Rules.{rules}
use Rattle.seat_server.proofs.Passing.{SoFar}
use Rattle.seat_server.proofs.cleaner.keep_clean.Given as goal

abbrev pub invariant-loop : goal.invariant-loop
invariant-loop g l = record {
  next : (goal.iterator-loop g).can_next l.iterator';
  finite : (goal.iterator-loop g).is_finite l.iterator';
  so_far : SoFar (rules g.T.Thing g.T.Repository.sight) l.fn.settings l.fn.turns l.fn.seat l.seat (cleaner_resources g.B.Blobs g.Q.Pace l.fn.cleaner) (cleaner_resources g.B.Blobs g.Q.Pace l.cleaner);
}
