use Rattle.crash_laws.proofs.AgainFiles.{file-answered-again}
use Rattle.crash_laws.proofs.laws.starts_answer_kept_files.Goals as goal

pub returns : goal.returns
returns c = file-answered-again
