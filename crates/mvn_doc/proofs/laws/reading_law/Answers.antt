use Rattle.std.proofs.Common.{List, Ok, ap, ◌∙◌}
use Rattle.mvn_doc.specs.Picked.{document_in}
use Rattle.mvn_doc.specs.Place.{Placed}
use Rattle.mvn_doc.specs.Reading.{picked}
use Rattle.mvn_doc.proofs.PickedLemmas.{picked_again}
use Rattle.mvn_doc.proofs.PickedWhole.{read_form}
use Rattle.mvn_doc.proofs.TextOutlined.{outlined_again}
use Rattle.mvn_doc.proofs.laws.reading_law.Goals as goal

pub returns : goal.returns
returns c = record {
  again = λ d h.
      let read = outlined_again d h in
      ap picked read.1 ∙ ap (λ (ps : List Placed). Ok (document_in ps)) read.2 ∙ ap Ok (picked_again d h);
  form = read_form;
}
