use Rattle.repo_model.specs.State.{opening}
use Rattle.repo_model.specs.Tables.{no_tables}
use Rattle.repo_laws.proofs.Histories.{sound-opening, one-place-opening}
use Rattle.repo_laws.proofs.HoldingOrder.{no-tables-ordered}
use Rattle.repo_laws.proofs.Holding.{opening-held, opening-stands, opening-numbered, history-recorded}
use Rattle.repo_laws.proofs.tables.empty_tables_hold.Goals as goal

pub returns-clause-holds : goal.returns-clause-holds
returns-clause-holds c = opening-held

pub returns-clause-stands : goal.returns-clause-stands
returns-clause-stands c = opening-stands

pub returns-clause-history : goal.returns-clause-history
returns-clause-history c = λ settings clock entries apart legal.
    let (applies, _, held) = history-recorded settings apart entries (opening settings clock) no_tables legal (sound-opening settings clock) (one-place-opening settings clock) (opening-numbered settings clock)
    no-tables-ordered (opening-held settings clock) in
    (applies, held)
