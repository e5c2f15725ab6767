use Rattle.kept_docs.specs.Kept.{AreSame}
use Rattle.kept_docs.proofs.docs.Docs.give_up.Given as goal

abbrev pub invariant-loop-page : goal.invariant-loop-page
invariant-loop-page l = AreSame l.fn.self l.self
