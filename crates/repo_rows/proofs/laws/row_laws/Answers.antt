use Rattle.repo_rows.proofs.Changes.{again, was_written}
use Rattle.repo_rows.proofs.laws.row_laws.Goals as goal

pub returns : goal.returns
returns c = record { again = again; written = was_written }
