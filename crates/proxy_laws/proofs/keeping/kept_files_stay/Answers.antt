use Rattle.proxy_laws.proofs.Staying.{file-stays, file-after-entry, file-after-history}
use Rattle.proxy_laws.proofs.keeping.kept_files_stay.Goals as goal

pub returns-clause-effect : goal.returns-clause-effect
returns-clause-effect c = file-stays

pub returns-clause-entry : goal.returns-clause-entry
returns-clause-entry c = file-after-entry

pub returns-clause-history : goal.returns-clause-history
returns-clause-history c = file-after-history
