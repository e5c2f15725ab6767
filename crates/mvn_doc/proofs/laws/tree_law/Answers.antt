use Rattle.mvn_doc.proofs.ContentPlaced.{read_tree, tree_read}
use Rattle.mvn_doc.proofs.laws.tree_law.Goals as goal

pub returns : goal.returns
returns c = record { written = tree_read; read = read_tree }
