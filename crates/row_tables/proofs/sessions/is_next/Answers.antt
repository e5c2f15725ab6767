use Rattle.std.proofs.Common.{sym}
use Rattle.row_tables.proofs.Rising.{below_all}
use Rattle.row_tables.proofs.sessions.is_next.Goals as goal

pub returns-in-Some : goal.returns-in-Some
returns-in-Some c = below_all c.args.number c.args.sessions.now c.in-Some.last.now c.requires (sym c.in-Some.ensures.value)
