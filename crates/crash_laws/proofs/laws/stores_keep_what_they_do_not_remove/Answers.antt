use Rattle.crash_laws.specs.Handed.{acknowledged_by}
use Rattle.crash_laws.proofs.Handed.{others-kept, removed-then}
use Rattle.crash_laws.proofs.laws.stores_keep_what_they_do_not_remove.Goals as goal

pub returns-clause-removed : goal.returns-clause-removed
returns-clause-removed c gone earlier shelf entries = removed-then gone earlier shelf entries

pub returns-clause-kept : goal.returns-clause-kept
returns-clause-kept c gone shelf entries = others-kept gone (acknowledged_by shelf entries)
