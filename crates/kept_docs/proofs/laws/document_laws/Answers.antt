use Rattle.std.proofs.Common.{refl}
use Rattle.repo_model.specs.Effect.{fade}
use Rattle.kept_docs.proofs.Beside.{document-with_row, document_after_first, document_elsewhere}
use Rattle.kept_docs.proofs.laws.document_laws.Goals as goal

pub returns : goal.returns
returns c = record {
  more = document-with_row;
  elsewhere = λ d path moment rows. document_elsewhere d path (fade moment) rows (λ r. refl);
  gone = document_after_first;
}
