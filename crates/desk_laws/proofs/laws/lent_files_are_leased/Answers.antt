use Rattle.std.proofs.Common.{subst, sym}
use Rattle.repo_model.specs.History.{end}
use Rattle.repo_model.specs.State.{State}
use Rattle.repo_laws.proofs.Readers.{answered-lent}
use Rattle.repo_laws.specs.Closed.{IsLentAs}
use Rattle.desk_laws.proofs.laws.lent_files_are_leased.Goals as goal

pub returns : goal.returns
returns g c asker blob lent =
    let old = lent.0 in
    let s = g.A.Ask.settings old in
    let due = g.met.A.Ask.due old lent.1 asker lent.3 in (
      lent.2,
      subst (λ (x : State). IsLentAs lent.2 blob.number x) (sym due.1.3)
          (answered-lent s (end s (g.A.Ask.state old) due.1.0) lent.1 lent.2 blob due.1.2 lent.4),
    )
