use Rattle.proxy_laws.proofs.Staying.{files-outlast, documents-outlast}
use Rattle.proxy_laws.proofs.keeping.restarts_keep_what_proxies_keep.Goals as goal

pub returns-clause-files : goal.returns-clause-files
returns-clause-files c = files-outlast

pub returns-clause-documents : goal.returns-clause-documents
returns-clause-documents c = documents-outlast
