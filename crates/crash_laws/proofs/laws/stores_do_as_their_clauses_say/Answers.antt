use Rattle.std.proofs.Common.{refl, ap}
use Rattle.outside.specs.Blobs.{sealed}
use Rattle.crash_laws.specs.Stores.{begins, removes, stores, with_call}
use Rattle.crash_laws.proofs.Stores.{may-do}
use Rattle.crash_laws.proofs.laws.stores_do_as_their_clauses_say.Goals as goal

pub returns-clause-begin : goal.returns-clause-begin
returns-clause-begin g c n old new result done failed = may-do (begins n) old new (with_call old (begins n)) result refl done failed

pub returns-clause-seal : goal.returns-clause-seal
returns-clause-seal g c pen bytes old new result told done failed =
    let n = g.B.Pen.Pen.number pen in
    may-do (stores n bytes) old new (sealed n (g.B.Pen.Pen.bytes pen) old) result (ap (λ written. sealed n written old) told) done failed

pub returns-clause-remove : goal.returns-clause-remove
returns-clause-remove g c n old new result done failed = may-do (removes n) old new (with_call old (removes n)) result refl done failed
