use Rattle.repo_laws.proofs.HoldingFiles.{files-held-kept, documents-held-kept}
use Rattle.repo_laws.proofs.proxies.effects_keep_files_held.Goals as goal

pub returns-clause-files : goal.returns-clause-files
returns-clause-files c = files-held-kept

pub returns-clause-documents : goal.returns-clause-documents
returns-clause-documents c = documents-held-kept
