use Rattle.repo_laws.proofs.HoldingItems.{rows-then, files-then, documents-then, sessions-then}
use Rattle.repo_laws.proofs.tables.items_change_one_place.Goals as goal

pub returns-clause-rows : goal.returns-clause-rows
returns-clause-rows c = rows-then

pub returns-clause-files : goal.returns-clause-files
returns-clause-files c = files-then

pub returns-clause-documents : goal.returns-clause-documents
returns-clause-documents c = documents-then

pub returns-clause-sessions : goal.returns-clause-sessions
returns-clause-sessions c = sessions-then
