use Rattle.xml_subset.proofs.Parsing.{read_is_written, written_is_read}
use Rattle.xml_subset.proofs.laws.tree_laws.Goals as goal

pub returns : goal.returns
returns c = record {
  read = λ root text es e. read_is_written root text es e;
  written = λ root text d w. written_is_read root text d w;
}
