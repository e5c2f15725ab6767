use Rattle.std.proofs.Common.{take}
use Rattle.kept_docs.specs.Kept.{AreSame}
use Rattle.kept_docs.specs.Placed.{HasRoom}
use Rattle.kept_docs.proofs.docs.Docs.make_room.Given as goal

abbrev pub invariant-loop-page : goal.invariant-loop-page
invariant-loop-page l = record { same : AreSame l.fn.self l.self; room : HasRoom l.self (take l.page-index l.pages) }
