use Rattle.std.proofs.Common.{sym, ap}
use Rattle.mvn_metadata.specs.Written.{updated_line}
use Rattle.mvn_doc.proofs.TextLemmas.{same}
use Rattle.mvn_doc.proofs.writing.updated.Goals as goal

pub returns-in-Some : goal.returns-in-Some
returns-in-Some c = same (ap (λ t. updated_line t) (sym c.in-Some.is)) c.moment_line.ensures
