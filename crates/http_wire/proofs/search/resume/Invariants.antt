use Rattle.http_wire.specs.Search.{IsOpen}
use Rattle.http_wire.proofs.search.resume.Given as goal

abbrev pub invariant-loop-i : goal.invariant-loop-i
invariant-loop-i l = IsOpen l.bytes l.start l.line l.i
