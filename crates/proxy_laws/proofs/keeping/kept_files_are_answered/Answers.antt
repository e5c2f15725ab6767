use Rattle.proxy_laws.proofs.Serving.{file-answered}
use Rattle.proxy_laws.proofs.keeping.kept_files_are_answered.Goals as goal

pub returns : goal.returns
returns c = file-answered
