use Rattle.std.proofs.Common.{subst}
use Rattle.outside_sockets.specs.Choice.{GoesFirst}
use Rattle.outside_sockets.proofs.Order.{it_goes}
use Rattle.outside_sockets.proofs.choice.is_first.Goals as goal

pub returns-in-Some-clause-it : goal.returns-in-Some-clause-it
returns-in-Some-clause-it c = λ met is yes. it_goes met c.in-Some.first c.args.standing (subst (GoesFirst met) c.in-Some.is is) (c.precedes.ensures.it yes)
