use Rattle.repo_laws.proofs.Prints.{prints-compare}
use Rattle.repo_laws.proofs.replies.prints_compare.Goals as goal

pub returns : goal.returns
returns c = prints-compare
