use Rattle.std.proofs.Common.{rules}
use Rattle.row_tables.proofs.Latest.{documents-latest}
use Rattle.row_tables.proofs.moments.latest_document.Goals as goal

pub returns : goal.returns
returns c = rw documents-latest (search rules)
