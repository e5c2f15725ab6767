use Rattle.naming_laws.proofs.Kept.{effect-keeps, entry-stays, history-stays}
use Rattle.naming_laws.proofs.puts.files_stay_until_collected.Goals as goal

pub returns-clause-effect : goal.returns-clause-effect
returns-clause-effect c = effect-keeps

pub returns-clause-entry : goal.returns-clause-entry
returns-clause-entry c = entry-stays

pub returns-clause-history : goal.returns-clause-history
returns-clause-history c = history-stays
