use Rattle.std.proofs.Common.{rules}
use Rattle.row_tables.proofs.Latest.{files-latest}
use Rattle.row_tables.proofs.moments.latest_file.Goals as goal

pub returns : goal.returns
returns c = rw files-latest (search rules)
