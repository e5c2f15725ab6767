use Rattle.std.proofs.Common.{sym, subst}
use Rattle.row_tables.specs.Applying.{AreRising}
use Rattle.row_tables.proofs.Kept.{rising_if}
use Rattle.row_tables.proofs.tables.Tables.end_session.Goals as goal

pub invariant_of-self : goal.invariant_of-self
invariant_of-self c = (c.self.invariant.0, subst AreRising (sym c.end_in.ensures.after) (rising_if c.end_in.result c.args.number c.args.how _ c.self.invariant.1))
