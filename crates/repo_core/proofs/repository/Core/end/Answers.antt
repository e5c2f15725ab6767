use Rattle.std.proofs.Common.{subst}
use Rattle.row_tables.specs.Crashes.{Rests}
use Rattle.repo_core.specs.Whole.{Whole}
use Rattle.repo_core.proofs.repository.Core.end.Goals as goal

pub returns-clause-rests : goal.returns-clause-rests
returns-clause-rests g c =
    subst (λ (w : Whole). Rests w.tables w.unsettled) c.self.view_is (g.met.K.Records.rests c.self.inside.records c.self.invariant.ready)
